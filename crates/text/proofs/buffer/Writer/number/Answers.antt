use Rattle.text.proofs.Trip.{read_back}
use Rattle.text.proofs.buffer.Writer.number.Goals as goal

pub returns-clause-back : goal.returns-clause-back
returns-clause-back c =
    let e = c.put_number.ensures in
    read_back c.args.self.now.buffer.now c.args.self.now.at c.args.n _ _ e.puts.bytes e.answer
