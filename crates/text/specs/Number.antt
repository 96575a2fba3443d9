-- Numbers of one to five digits, with no leading zero but for `0` itself.
use Rattle.std.specs.Prelude.{◌≡◌, ℕ, ◌+◌, ◌-◌, ◌*◌, ◌<◌, Bool, cond, ◌&&◌, List, [], ◌∷◌, length, take, drop, Some, None, decimal, Option, ◌==◌, nat_le, nat_lt, slice_index}

-- `0` to `9`
abbrev pub digit : ℕ → Bool
digit b = nat_le 48 b && nat_le b 57

-- what the digits bs write behind the digits of n
abbrev pub read_on : ℕ → List ℕ → Option ℕ
read_on n [] = Some n
read_on n (b ∷ bs) = cond (digit b) (read_on (n * 10 + (b - 48)) bs) None

-- the number that a text is
abbrev pub number_in : List ℕ → Option ℕ
number_in bs =
    cond (length bs == 0) None
    (cond (nat_lt 5 (length bs)) None
    (cond (slice_index bs 0 == 48 && nat_lt 1 (length bs)) None
    (read_on 0 bs)))

-- The law of reading: a text is the number n exactly if n has at most five digits and the text is n's decimal digits.
abbrev pub Reads : List ℕ → ℕ → Type 0
Reads bs n = (n < 100000) × (bs ≡ decimal n)

-- The law of writing: what was written at a place is read back as the number.
abbrev pub ReadBack : List ℕ → ℕ → ℕ → Option ℕ → Type 0
ReadBack buffer at n answer = (digits : ℕ) → answer ≡ Some digits → n < 100000 → number_in (take digits (drop at buffer)) ≡ Some n
