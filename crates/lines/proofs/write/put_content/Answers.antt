use Rattle.text.proofs.Writes.{puts_also, puts_in_room}
use Rattle.lines.proofs.write.put_content.Goals as goal

pub returns-in-Yarn : goal.returns-in-Yarn
returns-in-Yarn c = rw c.in-Yarn.is (puts_also c.bytes-in-Yarn.ensures.puts (puts_in_room c.number.ensures.puts))

pub returns-in-Cell : goal.returns-in-Cell
returns-in-Cell c = rw c.in-Cell.is (puts_also c.bytes-in-Cell.ensures.puts (puts_in_room c.number-in-Cell.ensures.puts))
