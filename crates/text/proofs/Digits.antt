-- Digits one by one: read behind a number, and written behind others.
use Rattle.std.proofs.Common.{◌≡◌, ℕ, ◌+◌, ◌*◌, ◌/◌, ◌%◌, ◌^◌, ◌<◌, ◌≤◌, [], ◌∷◌, ◌++◌, length, Some, None, decimal, zero, suc, unwrap_or, Option, IfNone, IfSome, sym, refl, ap, ◌∙◌, pow-suc, add-one, arith, length-append}
use native.Mathlib.Nat.{pow-le-pow_right}
use Rattle.std.proofs.lemmas.Fmt.{decimal_digit, decimal_step, length-decimal-le, decimal_nonempty}

-- how many digits a number has, by its front f, which is all but the last one
pub length_one : (n : ℕ) → n < 10 → length (decimal n) ≡ 1
length_one n h = ap length (decimal_digit n h)

pub length_front : (n f : ℕ) → 10 ≤ n → n < 2 ^ 64 → f ≡ n / 10 → length (decimal n) ≡ length (decimal f) + 1
length_front n f h fits e = ap length (decimal_step n h fits) ∙ length-append (decimal (n / 10)) _ ∙ ap (λ k. length (decimal k) + 1) (sym e)

-- a number from a power of ten on has a digit more than the power's exponent
length_least : (k n : ℕ) → 10 ^ k ≤ n → n < 2 ^ 64 → k + 1 ≤ length (decimal n)
length_least zero n h fits = let some = decimal_nonempty n fits in omega arith
length_least (suc k) n h fits =
    let p = pow-suc 10 k in
    let one : 10 ^ 0 ≤ 10 ^ k = pow-le-pow_right {n = 10} (omega arith) {i = 0} {j = k} (omega arith) in
    let q : 10 ^ k ≤ n / 10 = omega arith in
    let front = length_front n (n / 10) (omega arith) fits refl in
    let more = length_least k (n / 10) q (omega arith) in
    omega arith

length_by_power : (k n : ℕ) → 10 ^ k ≤ n → n < 10 * 10 ^ k → n < 2 ^ 64 → k + 1 ≡ length (decimal n)
length_by_power k n low high fits =
    let p = pow-suc 10 k in
    let least = length_least k n low fits in
    let most = length-decimal-le (k + 1) n (omega arith) (rw (add-one k) (omega arith)) fits in
    omega arith

pub length_by_log : (n : ℕ) (o : Option ℕ) → IfNone o (n ≡ 0) → IfSome o (λ k. 10 ^ k ≤ n) → IfSome o (λ k. n < 10 * 10 ^ k) → n < 2 ^ 64 → unwrap_or o 0 + 1 ≡ length (decimal n)
length_by_log n None none low high fits = sym (length_one n (omega (arith, none)))
length_by_log n (Some k) none low high fits = length_by_power k n low high fits

-- the last byte of a number behind its front
pub decimal_front : (n f b : ℕ) → 10 ≤ n → n < 2 ^ 64 → f ≡ n / 10 → b ≡ 48 + n % 10 → decimal n ≡ decimal f ++ (b ∷ [])
decimal_front n f b h fits e d = decimal_step n h fits ∙ ap (λ k. decimal k ++ ((48 + n % 10) ∷ [])) (sym e) ∙ ap (λ k. decimal f ++ (k ∷ [])) (sym d)

pub decimal_last : (n b : ℕ) → n < 10 → b ≡ 48 + n % 10 → decimal n ≡ b ∷ []
decimal_last n b h d = let e : 48 + n ≡ b = omega arith in decimal_digit n h ∙ ap (λ k. k ∷ []) e
