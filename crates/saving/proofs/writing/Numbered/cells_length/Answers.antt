use Rattle.std.proofs.Common.{rules, ◌≡◌, ◌+◌, ◌-◌, ◌/◌, ◌<◌, ◌≤◌, length, ℕ, Option, arith, ◌∙◌}
use Rattle.std.proofs.lemmas.Iterator.{YieldsList-from_map, YieldsList-from_range}
use Rattle.std.proofs.lemmas.Iterator.Adapters.{YieldsAtMost, fits_from_length, at_most_from_yields_List}
use Rattle.std.proofs.lemmas.Iterator.Consumers.{sum_by_from_yields_List}
use Rattle.std.proofs.lemmas.List.FromFn.{length-range_with_len}
use Rattle.std.specs.Fn.{Called}
use Rattle.std.specs.Iterator.Adapters.{map_source, map_callee, map_steps}
use Rattle.std.specs.Iterator.Runs.{WholeRun}
use Rattle.std.specs.List.{fold, range_with_len}
use Rattle.std.specs.declared.iter.Map.{Map}
use denote.Param.Members.{Mut}
use Rattle.lines.specs.Text.{cell_fields, line_text}
use Rattle.saving.specs.Text.{line_in}
use Rattle.saving.proofs.Texts.{length_sum}
use Rattle.saving.proofs.writing.Numbered.cells_length.Goals as goal

-- a sum is small where it has few items and each is small
few_from_length : {S A F : Type 0} {steps : S → Option A → S → Type 0} {s : Map S F} {g : Mut F (A × Unit {0}) ℕ} (f : F) (n top r : ℕ)
    → WholeRun (map_steps steps g) s (λ p. r ≡ fold (λ a x. a + x) 0 p.items)
    → YieldsAtMost steps (map_source s) n → map_callee s ≡ f → 0 < top
    → ((x : A) (r : ℕ) (q : F) → Called g f (x, tt) r q → (q ≡ f) × (r ≤ (top - 1) / n)) → r < top
few_from_length {g = g} f n top r run few is some each = let below = fits_from_length g f n top few is some each run.0 run.0.seen run.1 in omega (arith, run.3)

pub sum-requires-clause-fits : goal.sum-requires-clause-fits
sum-requires-clause-fits g c =
    let n = c.args.self.now.count in
    let most : n - 0 ≡ n = omega arith in
    fits_from_length _ _ 4294967296 _ (at_most_from_yields_List (YieldsList-from_range 0 n n c.map.ensures.source most) (omega (arith, length-range_with_len 0 n)))
    c.map.ensures.closure (omega arith) (λ x r q k. search rules)

pub returns-clause-bytes : goal.returns-clause-bytes
returns-clause-bytes g c = λ s.
    let n = c.args.self.now.count in
    let most : n - 0 ≡ n = omega arith in
    let h : ℕ → ℕ = λ k. length (line_text (cell_fields (line_in (g.H.Heap.meaning c.args.self.now.heap.now) c.args.self.now.numbers.now c.args.self.now.order.now k))) in
    sum_by_from_yields_List h (range_with_len 0 n) c.map.result c.sum.result c.sum.ensures.ran
    (YieldsList-from_map _ h (YieldsList-from_range 0 n n c.map.ensures.source most) c.map.ensures.closure (λ x r q k. search rules))
    ∙ length_sum (g.H.Heap.meaning c.args.self.now.heap.now) c.args.self.now.numbers.now c.args.self.now.order.now n

pub returns-clause-few : goal.returns-clause-few
returns-clause-few g c =
    let n = c.args.self.now.count in
    let most : n - 0 ≡ n = omega arith in
    few_from_length _ 4294967296 1152921504606846976 c.sum.result (c.sum.ensures.runs tt)
    (at_most_from_yields_List (YieldsList-from_range 0 n n c.map.ensures.source most) (omega (arith, length-range_with_len 0 n)))
    c.map.ensures.closure (omega arith) (λ x r q k. search rules)
