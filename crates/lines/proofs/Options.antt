-- What an answer that is there shows.
use Rattle.std.proofs.Common.{◌≡◌, Some, None, Option, refl}
use Rattle.std.proofs.lemmas.Option.{none-some}
use Rattle.lines.specs.Values.{given}

pub none_not_some : {X : Type 0} {x : X} → ◌≡◌ {A = Option X} None (Some x) → ⊥
none_not_some e = none-some _ e

pub given_some : {X Y : Type 0} (o : Option X) (more : X → Option Y) (y : Y) → given o more ≡ Some y → (x : X) × (o ≡ Some x) × (more x ≡ Some y)
given_some None more y e = absurd (none-some y e)
given_some (Some x) more y e = (x, refl, e)
