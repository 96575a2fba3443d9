use Rattle.planes.specs.Bits.{Cleared}
use Rattle.planes.proofs.bits.clear_bits.Given as goal

abbrev pub invariant-loop-i : goal.invariant-loop-i
invariant-loop-i l = Cleared l.i l.initial.plane l.plane
