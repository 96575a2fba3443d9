-- A plane of bits: bit i is bit i mod 8, counted from the lowest, of byte i div 8.
use Rattle.std.specs.Prelude.{◌≡◌, ℕ, ◌/◌, ◌%◌, ◌^◌, ◌<◌, ◌≤◌, Bool, true, false, List, length, Some, None, Option, ◌==◌, bit_or, bit_xor, slice_index, slice_set}

-- bit k of a number, 0 or 1
abbrev pub bit_of : ℕ → ℕ → ℕ
bit_of byte k = byte / 2 ^ k % 2

-- is bit i of a plane set?
abbrev pub bit_at : List ℕ → ℕ → Bool
bit_at plane i = bit_of (slice_index plane (i / 8)) (i % 8) == 1

-- a number with bit k set or cleared
abbrev pub with_bit : ℕ → ℕ → Bool → ℕ
with_bit byte k true = bit_or byte (2 ^ k)
with_bit byte k false = bit_xor (bit_or byte (2 ^ k)) (2 ^ k)

-- a plane with bit i set or cleared
abbrev pub put_bit : List ℕ → ℕ → Bool → List ℕ
put_bit plane i on = slice_set plane (i / 8) (with_bit (slice_index plane (i / 8)) (i % 8) on)

-- no bit is set from `from` on and below n
abbrev pub ClearFrom : List ℕ → ℕ → ℕ → Type 0
ClearFrom plane from n = (j : ℕ) → from ≤ j → j < n → bit_at plane j ≡ false

-- r is the first bit set from `from` on and below n
abbrev pub FirstSet : List ℕ → ℕ → ℕ → Option ℕ → Type 0
FirstSet plane from n None = ClearFrom plane from n
FirstSet plane from n (Some i) = (from ≤ i) × (i < n) × (bit_at plane i ≡ true) × ClearFrom plane from i

-- a plane whose bits from n on, and whose length, are as they were
pub record SameBits (n : ℕ) (before after : List ℕ) : Type 0 where
  pub long : length after ≡ length before
  pub beyond : (j : ℕ) → n ≤ j → bit_at after j ≡ bit_at before j

-- a plane whose bits below n were cleared, and no other
pub record Cleared (n : ℕ) (before after : List ℕ) : Type 0 where
  pub clear : (j : ℕ) → j < n → bit_at after j ≡ false
  pub rest : SameBits n before after
