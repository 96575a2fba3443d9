-- A quotient that is rounded up.
use Rattle.std.proofs.Common.{◌≡◌, ℕ, ◌+◌, ◌-◌, ◌*◌, ◌/◌, ◌%◌, ◌<◌, ◌≤◌, min, sym, ap, ◌∙◌, arith}
use Rattle.std.proofs.Math.Nat.{add-mul, div-eq_of_lt-le, one-mul}
use Rattle.std.proofs.lemmas.Grind.{div_ceil_times}

pub rounded_up : (k l : ℕ) → 0 < l → k / l + min 1 (k % l) ≡ (k + l - 1) / l
rounded_up k l p =
    let q : ℕ = k / l + min 1 (k % l) in
    let b : (k ≤ q * l) × (q * l < k + l) = div_ceil_times k l p in
    let low = b.0 in
    let high = b.1 in
    let next : (q + 1) * l ≡ q * l + l = add-mul q 1 l ∙ ap (λ m. q * l + m) (one-mul l) in
    let below : q * l ≤ k + l - 1 = omega arith in
    let above : k + l - 1 < (q + 1) * l = rw next (omega arith) in
    sym (div-eq_of_lt-le l below above)
