use Rattle.std.proofs.Common.{arith}
use Rattle.text.proofs.Digits.{decimal_last, decimal_front}
use Rattle.text.proofs.Writes.{puts_in_room, in_room_also}
use Rattle.text.proofs.buffer.Writer.+digits.Goals as goal
use Rattle.text.proofs.buffer.Writer.+digits.Goals.{then-n-ge10, else-n-ge10}

pub returns : goal.returns
returns t c =
    let last = puts_in_room c.bytes.ensures.puts in
    elim c.if-n-ge10.branch [
      | then-n-ge10 w ↦ rw (decimal_front _ _ _ w.if-n-ge10.true (omega arith) w.front.ensures c.last_digit.ensures) (in_room_also w.digits.ensures (rw (← w.self-is) last))
      | else-n-ge10 w ↦ rw (decimal_last _ _ w.if-n-ge10.false c.last_digit.ensures) (rw (← w.self-is) last)
    ]
