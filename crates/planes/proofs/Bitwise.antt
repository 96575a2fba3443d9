-- Single bits of a number and of a plane.
use Rattle.std.proofs.Common.{◌≡◌, ℕ, ◌+◌, ◌*◌, ◌/◌, ◌%◌, ◌^◌, ◌<◌, ◌≤◌, Bool, true, false, eqb, ◌≢◌, List, length, get_or, set, sym, ap, ◌∙◌, inl, inr, arith}
use lib.Bits.{bit_or, bit_xor}
use Rattle.std.proofs.lemmas.Nat.Bits.{bit_at-lt, bit_at-pow_other, bit_at-pow_same, bit_at_or, bit_at_xor}
use Rattle.std.proofs.lemmas.List.{get_or-set_other, get_or-set_same, length-set}
use Rattle.std.proofs.lemmas.Bool.{cases_eq, eq-eqb}
use Rattle.planes.specs.Bits.{Cleared, SameBits, bit_at, bit_of, put_bit, with_bit}

-- bit k of a number where it was raised, and the others
raised_same : (n k : ℕ) → bit_of (bit_or n (2 ^ k)) k ≡ 1
raised_same n k = omega (arith, bit_at_or n (2 ^ k) k, bit_at-pow_same k, bit_at-lt n k)

raised_other : (n k j : ℕ) → j ≢ k → bit_of (bit_or n (2 ^ k)) j ≡ bit_of n j
raised_other n k j ne = omega (arith, bit_at_or n (2 ^ k) j, bit_at-pow_other k j ne)

-- the same where it was set or cleared
with_same : (n k : ℕ) (on : Bool) → eqb (bit_of (with_bit n k on) k) 1 ≡ on
with_same n k true = eq-eqb (bit_of (bit_or n (2 ^ k)) k) 1 (raised_same n k)
with_same n k false =
    let e : bit_of (bit_xor (bit_or n (2 ^ k)) (2 ^ k)) k ≡ 0 = omega (arith, bit_at_xor (bit_or n (2 ^ k)) (2 ^ k) k, raised_same n k, bit_at-pow_same k) in
    ap (λ x. eqb x 1) e

with_other : (n k j : ℕ) (on : Bool) → j ≢ k → bit_of (with_bit n k on) j ≡ bit_of n j
with_other n k j true ne = raised_other n k j ne
with_other n k j false ne = omega (arith, bit_at_xor (bit_or n (2 ^ k)) (2 ^ k) j, bit_at-pow_other k j ne, raised_other n k j ne, bit_at-lt n j)

-- a bit that was put, the others, and the length
pub put_same : (p : List ℕ) (i : ℕ) (on : Bool) → i < 8 * length p → bit_at (put_bit p i on) i ≡ on
put_same p i on h =
    ap (λ b. eqb (bit_of b (i % 8)) 1) (get_or-set_same p (i / 8) (with_bit (get_or p (i / 8) 0) (i % 8) on) 0 (omega arith)) ∙ with_same (get_or p (i / 8) 0) (i % 8) on

pub put_other : (p : List ℕ) (i j : ℕ) (on : Bool) → i < 8 * length p → j ≢ i → bit_at (put_bit p i on) j ≡ bit_at p j
put_other p i j on h ne =
    let v = with_bit (get_or p (i / 8) 0) (i % 8) on in
    elim (cases_eq (j / 8) (i / 8)) [
      | inl e ↦ let nk : j % 8 ≢ i % 8 = λ q. ne (omega arith) in
          ap (λ m. eqb (bit_of (get_or (set p (i / 8) v) m 0) (j % 8)) 1) e
          ∙ ap (λ b. eqb (bit_of b (j % 8)) 1) (get_or-set_same p (i / 8) v 0 (omega arith))
          ∙ ap (λ b. eqb b 1) (with_other (get_or p (i / 8) 0) (i % 8) (j % 8) on nk)
          ∙ ap (λ m. eqb (bit_of (get_or p m 0) (j % 8)) 1) (sym e)
      | inr n ↦ ap (λ b. eqb (bit_of b (j % 8)) 1) (get_or-set_other p (i / 8) (j / 8) v 0 n)
    ]

pub put_length : (p : List ℕ) (i : ℕ) (on : Bool) → length (put_bit p i on) ≡ length p
put_length p i on = length-set p (i / 8) (with_bit (get_or p (i / 8) 0) (i % 8) on)

-- a bit below n that is put leaves those from n on
pub put_rest : (n : ℕ) (p q : List ℕ) (i : ℕ) (on : Bool) → i < n → n ≤ 8 * length p → q ≡ put_bit p i on → SameBits n p q
put_rest n p q i on h room e = record {
  long = ap length e ∙ put_length p i on;
  beyond = λ j hj. ap (λ x. bit_at x j) e ∙ put_other p i j on (omega arith) (λ s. omega arith);
}

-- one more bit cleared
pub clear_more : (p q r : List ℕ) (i : ℕ) → Cleared i p q → i < 8 * length q → r ≡ put_bit q i false → Cleared (i + 1) p r
clear_more p q r i c h e = record {
  clear = λ j hj. ap (λ x. bit_at x j) e ∙ elim (cases_eq j i) [
    | inl s ↦ ap (bit_at (put_bit q i false)) s ∙ put_same q i false h
    | inr ne ↦ put_other q i j false h ne ∙ c.clear j (omega arith)
  ];
  rest = record {
    long = ap length e ∙ put_length q i false ∙ c.rest.long;
    beyond = λ j hj. ap (λ x. bit_at x j) e ∙ put_other q i j false h (λ s. omega arith) ∙ c.rest.beyond j (omega arith);
  };
}
