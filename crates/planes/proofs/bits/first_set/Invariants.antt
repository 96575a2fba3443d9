use Rattle.std.proofs.Common.{◌≡◌, ℕ, ◌+◌, ◌*◌, ◌<◌, ◌≤◌, false}
use Rattle.planes.specs.Bits.{bit_at}
use Rattle.planes.proofs.bits.first_set.Given as goal

abbrev pub invariant-loop-k : goal.invariant-loop-k
invariant-loop-k l = (j : ℕ) → l.from ≤ j → j < l.at * 8 + l.k → j < l.size → bit_at l.plane j ≡ false

abbrev pub invariant-loop-at : goal.invariant-loop-at
invariant-loop-at l = (j : ℕ) → l.from ≤ j → j < l.at * 8 → j < l.size → bit_at l.plane j ≡ false
