-- A list of numbers that is the front of another.
use Rattle.std.proofs.Common.{◌≡◌, ℕ, ◌<◌, ◌≤◌, List, [], ◌++◌, length, get_or, sym, ap, ◌∙◌, subst}
use Rattle.std.proofs.lemmas.List.Prefix.{front_fits, front_reads}
use Rattle.std.proofs.lemmas.List.{append_assoc, append-nil}
use Rattle.numbering.specs.Lists.{In}
use Rattle.numbering.proofs.Lists.{in_left}

-- w is v, or v goes on behind it
abbrev pub Front : List ℕ → List ℕ → Type 0
Front w v = (rest : List ℕ) × (v ≡ w ++ rest)

-- a list is its own front, and a front of a front is a front
pub front_same : (w : List ℕ) → Front w w
front_same w = ([], sym (append-nil w))

pub front_on : (u v w : List ℕ) → Front u v → Front v w → Front u w
front_on u v w f g = (f.0 ++ g.0, g.1 ∙ ap (λ x. x ++ g.0) f.1 ∙ append_assoc u f.0 g.0)

-- the whole list has what its front has, at the same places, and is no shorter
pub front_in : (w v : List ℕ) (c : ℕ) → Front w v → In c w → In c v
front_in w v c f h = subst (In c) (sym f.1) (in_left w f.0 c h)

pub front_at : (w v : List ℕ) (k : ℕ) → Front w v → k < length w → get_or v k 0 ≡ get_or w k 0
front_at w v k f h = front_reads 0 v w f.0 f.1 k h

pub front_length : (w v : List ℕ) → Front w v → length w ≤ length v
front_length w v f = front_fits v w f.0 f.1
