-- Past the last cell the walk through the tables meets nothing.
use Rattle.std.proofs.Common.{◌≡◌, ℕ, zero, suc, ◌+◌, ◌-◌, ◌≤◌, None, ltb, sym, ap, ◌∙◌, arith}
use Rattle.std.proofs.lemmas.Bool.{cond-false, le-ltb}
use Rattle.std.proofs.lemmas.Grind.{common_steps}
use Rattle.cells.specs.Cells.{Cells}
use Rattle.saving.specs.declared.tables.Walk.{Walk}
use Rattle.saving.specs.Tables.{Tables, cell_at_in, line_visited_in, visited_in, walked_in}
use Rattle.saving.specs.Walk.{Becomes, tables_of}

stays : (cells : Cells) (t : Tables) (k d : ℕ) → (walked_in cells t k).count ≤ k → walked_in cells t (d + k) ≡ walked_in cells t k
stays cells t k zero h = ap (walked_in cells t) (let same : 0 + k ≡ k = omega arith in same)
stays cells t k (suc d) h =
    let u = walked_in cells t k in
    ap (walked_in cells t) (let next : suc d + k ≡ suc (d + k) = omega arith in next)
    ∙ ap (line_visited_in cells (d + k)) (stays cells t k d h)
    ∙ cond-false (ltb (d + k) u.count) (visited_in cells u (d + k)) u (le-ltb (d + k) u.count (omega arith))

-- so the walk may end there,
pub walked_stays : (cells : Cells) (w v : Walk) (k m : ℕ) → Becomes w v (walked_in cells (tables_of w) k) → None ≡ cell_at_in (tables_of v) k → k ≤ m
    → Becomes w v (walked_in cells (tables_of w) m)
walked_stays cells w v k m so_far past h =
    let t = tables_of w in
    let is = so_far.tables_are in
    let few : (walked_in cells t k).count ≤ k = grind (arith, common_steps, past, ap (λ s. s.count) is) in
    let ends : walked_in cells t m ≡ walked_in cells t k = ap (walked_in cells t) (let back : m ≡ (m - k) + k = omega arith in back) ∙ stays cells t k (m - k) few in
    record { tables_are = is ∙ sym ends; lenders = so_far.lenders }
