-- Reading undoes writing, and writing undoes reading.
use Rattle.std.proofs.Common.{◌≡◌, ℕ, ◌+◌, ◌-◌, ◌*◌, ◌^◌, ◌<◌, ◌≤◌, Bool, true, false, cond, ◌&&◌, ◌↔◌, List, [], ◌∷◌, length, get_or, take, drop, Some, None, decimal, Option, sym, refl, ap, ◌∙◌, ⊎_elim, arith, rules, leb-true}
use Rattle.std.specs.Str.{all_ascii_digits}
use Rattle.std.proofs.lemmas.Str.Parse.{IsNumeralModel, numerals_by_fold, tells_all_ascii_digits, digits_value_short}
use Rattle.std.proofs.lemmas.Fmt.{digits_decimal, digits_value-decimal, length-decimal-le, decimal_nonempty, first_decimal, decimal-digits_value, decimal_digit}
use Rattle.std.proofs.lemmas.List.{take_at, drop_at, length-take}
use Rattle.std.proofs.lemmas.Bool.Decides.{nat_tests}
use Rattle.std.proofs.str.Laws.{order}
use Rattle.text.specs.Buffer.{written, fits, put, length_put}
use Rattle.text.specs.Number.{digit, read_on, number_in, Reads, ReadBack}

-- the value of digits, read from the left
abbrev fold : ℕ → List ℕ → ℕ
fold n [] = n
fold n (c ∷ cs) = fold (n * 10 + (c - 48)) cs

own : IsNumeralModel (λ ds. all_ascii_digits ds ≡ true) (fold 0)
own = numerals_by_fold _ tells_all_ascii_digits fold (search rules)

read_is : (n : ℕ) (ds : List ℕ) → read_on n ds ≡ cond (all_ascii_digits ds) (Some (fold n ds)) None
read_is n [] = refl
read_is n (c ∷ cs) = ap (λ o. cond (digit c) o None) (read_is (n * 10 + (c - 48)) cs) ∙ both (digit c) (all_ascii_digits cs) _
  where
    both : (a b : Bool) (v : ℕ) → cond a (cond b (Some v) None) None ≡ cond (a && b) (Some v) None
    both true b v = refl
    both false b v = refl

read_decimal : (n : ℕ) → n < 2 ^ 64 → read_on 0 (decimal n) ≡ Some n
read_decimal n h =
    read_is 0 (decimal n)
    ∙ ap (λ t. cond t (Some (fold 0 (decimal n))) None) (digits_decimal own n h)
    ∙ ap Some (digits_value-decimal own n h)

-- what is written is read
pub number_written : (n : ℕ) → n < 100000 → number_in (decimal n) ≡ Some n
number_written n h =
    let small : n < 2 ^ 64 = omega arith in
    let long = length-decimal-le 5 n (omega arith) h small in
    let some = decimal_nonempty n small in
    let read = read_decimal n small in
    ⊎_elim
    (λ lt. let one : length (decimal n) ≡ 1 = ap length (decimal_digit n lt) in grind (arith, nat_tests))
    (λ ge. let first = first_decimal n (omega arith) small in grind (arith, nat_tests))
    (order n 10)

-- what a text that is read as a number shows
record Form (bs : List ℕ) (n : ℕ) : Type 0 where
  some : 0 < length bs
  few : length bs ≤ 5
  plain : get_or bs 0 0 ≡ 48 → length bs ≡ 1
  reads : read_on 0 bs ≡ Some n

formed : (bs : List ℕ) (n : ℕ) → number_in bs ≡ Some n → Form bs n
formed bs n e = record { some = grind (arith, nat_tests); few = grind (arith, nat_tests); plain = λ z. grind (arith, nat_tests); reads = grind (arith, nat_tests) }

all_digits : (bs : List ℕ) (n : ℕ) → read_on 0 bs ≡ Some n → (all_ascii_digits bs ≡ true) × (fold 0 bs ≡ n)
all_digits bs n e = let r = sym (read_is 0 bs) ∙ e in (grind (arith, nat_tests), grind (arith, nat_tests))

-- what is read is what would be written
pub number_read : (bs : List ℕ) (n : ℕ) → number_in bs ≡ Some n → Reads bs n
number_read bs n e =
    let a = formed bs n e in
    let d = all_digits bs n a.reads in
    let low : fold 0 bs < 100000 = digits_value_short own bs 5 d.0 a.few in (
      omega (arith, d.1),
      sym (ap decimal (sym d.1) ∙ decimal-digits_value own bs d.0 a.some a.plain (omega arith)),
    )

pub reads_exactly : (bs : List ℕ) (n : ℕ) → (number_in bs ≡ Some n) ↔ Reads bs n
reads_exactly bs n = (number_read bs n, λ r. ap number_in r.1 ∙ number_written n r.0)

-- the bytes of a decimal number are digits, so none of them is a stop below `0`
pub digits_in : (n : ℕ) → n < 2 ^ 64 → all_ascii_digits (decimal n) ≡ true
digits_in n h = digits_decimal own n h

-- what was written into a buffer stands there
pub taken_back : (buffer : List ℕ) (at : ℕ) (xs : List ℕ) → at + length xs ≤ length buffer → take (length xs) (drop at (written buffer at xs)) ≡ xs
taken_back buffer at xs h =
    let front : length (take at buffer) ≡ at = simp length-take (omega arith) in
    ap (take (length xs)) (drop_at (take at buffer) _ at front) ∙ take_at xs _ (length xs) refl

pub read_back : (buffer : List ℕ) (at n : ℕ) (after : List ℕ) (r : Option ℕ) → after ≡ put buffer at (decimal n) → r ≡ length_put buffer at (decimal n) → ReadBack after at n r
read_back buffer at n after r e f digits g small = by (fits buffer at (decimal n)) refl e (sym g ∙ f)
  where
    by : (t : Bool) → fits buffer at (decimal n) ≡ t → after ≡ cond t (written buffer at (decimal n)) buffer → Some digits ≡ cond t (Some (length (decimal n))) None → number_in (take digits (drop at after)) ≡ Some n
    by true q e f =
        let d : digits ≡ length (decimal n) = cc in
        ap (λ k. number_in (take k (drop at after))) d
        ∙ ap (λ b. number_in (take (length (decimal n)) (drop at b))) e
        ∙ ap number_in (taken_back buffer at (decimal n) (leb-true _ _ q))
        ∙ number_written n small
    by false q e f = cc
