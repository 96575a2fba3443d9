use Rattle.text.proofs.Writes.{in_room_also, puts_also, puts_in_room}
use Rattle.lines.proofs.Lengths.{cell_pieces}
use Rattle.lines.proofs.write.put_cell.Goals as goal

pub returns : goal.returns
returns c =
    rw (cell_pieces c.args.cell, ← c.joint_text.ensures)
    (puts_also c.bytes.ensures.puts
    (puts_also c.bytes-2.ensures.puts
    (puts_also c.bytes-3.ensures.puts
    (in_room_also c.put_content.ensures
    (puts_also c.bytes-4.ensures.puts
    (in_room_also c.put_content-2.ensures (puts_in_room c.bytes-5.ensures.puts)))))))
