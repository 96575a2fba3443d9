-- A text cut in two at its first byte of a kind.
use Rattle.std.specs.Prelude.{◌≡◌, ℕ, cond, List, [], ◌∷◌, ◌++◌, Some, None, Option, ◌==◌, ◌≢◌}
use Rattle.std.specs.Borrow.{Bor}
use Rattle.std.specs.List.{AllByRecursion}

-- p in front of what was cut off
abbrev pub behind : List ℕ → Option (List ℕ × List ℕ) → Option (List ℕ × List ℕ)
behind p None = None
behind p (Some parts) = Some (p ++ parts.0, parts.1)

-- what stands before the first stop, and what stands behind it
abbrev pub cut_at : ℕ → List ℕ → Option (List ℕ × List ℕ)
cut_at stop [] = None
cut_at stop (x ∷ xs) = cond (x == stop) (Some ([], xs)) (behind (x ∷ []) (cut_at stop xs))

-- the bytes of two borrowed parts
abbrev pub parts_of : Option (Bor (List ℕ) × Bor (List ℕ)) → Option (List ℕ × List ℕ)
parts_of None = None
parts_of (Some parts) = Some (parts.0.now, parts.1.now)

-- none of the bytes xs is b
abbrev pub Lacks : ℕ → List ℕ → Type 0
Lacks b xs = AllByRecursion (λ x. x ≢ b) xs

-- The law of a cut: the two parts with the stop between them are the text, and the front part has no stop.
abbrev pub Cuts : ℕ → List ℕ → List ℕ → List ℕ → Type 0
Cuts stop text front rest = (text ≡ front ++ (stop ∷ rest)) × Lacks stop front
