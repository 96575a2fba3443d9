use Rattle.text.proofs.Writes.{puts_also, puts_in_room}
use Rattle.lines.proofs.write.put_counted.Goals as goal

pub returns : goal.returns
returns c = puts_also c.bytes.ensures.puts (puts_also c.number.ensures.puts (puts_in_room c.bytes-2.ensures.puts))
