use Rattle.std.proofs.Common.{◌≡◌, ◌^◌, ◌<◌, drop}
use Rattle.text.specs.Number.{read_on}
use Rattle.text.proofs.number.read_digits.Given as goal

-- what is left gives the whole, and so many digits give so small a number
abbrev pub invariant-loop-b : goal.invariant-loop-b
invariant-loop-b l = (read_on l.n (drop l.b-index l.text) ≡ read_on 0 l.text) × (l.n < 10 ^ l.b-index)
