-- The number of grey cells, and what each call makes of it.
use Rattle.std.proofs.Common.{◌≡◌, ℕ, zero, suc, ◌+◌, ◌<◌, ◌≤◌, Bool, true, false, cond, Some, None, Option, sym, refl, ap, ◌∙◌, inl, inr, arith}
use Rattle.std.proofs.lemmas.Bool.{cases_Bool, cases_eq, cond-true, cond-false}
use Rattle.cells.specs.declared.cell.MarkColour.{MarkColour}
use Rattle.cells.specs.declared.cell.SweepColour.{SweepColour}
use Rattle.cells.specs.declared.cell.SweepColour.TheVariants.{White, Black}
use Rattle.cells.specs.declared.cell.Colour.{Colour}
use Rattle.cells.specs.declared.cell.Colour.TheVariants.{Mark, Sweep}
use Rattle.cells.specs.Cells.{Cells, cell_at, changed_at}
use Rattle.cells.specs.Calls.{exchange_cells, exchange_unless, first_grey, paint_cells, paint_unless}
use Rattle.cells.specs.Count.{grey_below, grey_count}
use Rattle.cells.specs.Fault.{grey_fault}
use Rattle.cells.specs.Record.{as_mark, grey_weight, is_grey, painted_cell}
use Rattle.cells.proofs.Changed.{changed_same, changed_other}
use Rattle.cells.proofs.Refused.{index_in}
use Rattle.cells.proofs.Seek.{first_none, none_grey}

pub weight_le : (m : MarkColour) → grey_weight m ≤ 1
weight_le m = go (is_grey m)
  where
    go : (b : Bool) → cond b 1 0 ≤ 1
    go true = omega arith
    go false = omega arith

pub count_le : (g : ℕ → MarkColour) (n : ℕ) → grey_below g n ≤ n
count_le g zero = omega arith
count_le g (suc n) = omega (arith, weight_le (g n), count_le g n)

pub weight_counted : (g : ℕ → MarkColour) (n i : ℕ) → i < n → grey_weight (g i) ≤ grey_below g n
weight_counted g zero i h = absurd (omega arith)
weight_counted g (suc n) i h = elim (cases_eq i n) [
  | inl e ↦ rw e (omega arith)
  | inr ne ↦ omega (arith, weight_counted g n i (omega arith))
]

pub count_more : (g : ℕ → MarkColour) (i : ℕ) → grey_below g (i + 1) ≡ grey_below g i + grey_weight (g i)
count_more g i = let e : i + 1 ≡ suc i = omega arith in ap (grey_below g) e

-- a colour changed at i, seen below i and above
change_past : (g : ℕ → MarkColour) (n i : ℕ) (v : MarkColour) → n ≤ i → grey_below (changed_at g i v) n ≡ grey_below g n
change_past g zero i v h = refl
change_past g (suc n) i v h = omega (arith, change_past g n i v (omega arith), ap grey_weight (changed_other g i v n (λ q. omega arith)))

pub count_changed : (g : ℕ → MarkColour) (n i : ℕ) (v : MarkColour) → i < n → grey_below (changed_at g i v) n + grey_weight (g i) ≡ grey_below g n + grey_weight v
count_changed g zero i v h = absurd (omega arith)
count_changed g (suc n) i v h = elim (cases_eq i n) [
  | inl e ↦ rw (← e) (omega (arith, change_past g i i v (omega arith), ap grey_weight (changed_same g i v)))
  | inr ne ↦ omega (arith, count_changed g n i v (omega arith), ap grey_weight (changed_other g i v n (λ q. omega arith)))
]

-- the count is 0 exactly if no cell is grey
zero_none : (g : ℕ → MarkColour) (n : ℕ) → grey_below g n ≡ 0 → (j : ℕ) → j < n → is_grey (g j) ≡ false
zero_none g n e j h = elim (cases_Bool (is_grey (g j))) [
  | inl t ↦ let one : grey_weight (g j) ≡ 1 = cond-true (is_grey (g j)) 1 0 t in absurd (omega (arith, weight_counted g n j h))
  | inr f ↦ f
]

none_zero : (g : ℕ → MarkColour) (n : ℕ) → ((j : ℕ) → j < n → is_grey (g j) ≡ false) → grey_below g n ≡ 0
none_zero g zero f = refl
none_zero g (suc n) f =
    let z : grey_weight (g n) ≡ 0 = cond-false (is_grey (g n)) 1 0 (f n (omega arith)) in
    omega (arith, z, none_zero g n (λ j h. f j (omega arith)))

pub zero_first : (c : Cells) (k : ℕ) → grey_count c ≡ 0 → None ≡ first_grey c k
zero_first c k e = sym (first_none c k (λ j lo hi. zero_none c.mark c.size e j hi))

-- an exchange leaves the count, since no sweep colour is grey
not_grey : (s : SweepColour) → is_grey (as_mark s) ≡ false
not_grey White = refl
not_grey Black = refl

pub count_exchange : (c : Cells) → grey_count (exchange_cells c) ≡ grey_count c
count_exchange c = go (first_grey c 0) refl
  where
    go : (first : Option ℕ) → first_grey c 0 ≡ first → grey_count (exchange_unless (grey_fault first) c) ≡ grey_count c
    go (Some i) e = refl
    go None e = none_zero (λ i. as_mark (c.sweep i)) c.size (λ j h. not_grey (c.sweep j)) ∙ sym (none_zero c.mark c.size (λ j h. none_grey c 0 e j (omega arith) h))

-- a paint that is not refused takes away the weight of the old mark colour and adds that of the new one
pub count_paint : (c : Cells) (i : ℕ) (k : Colour) → i < c.size → grey_count (paint_cells c i k) + grey_weight (c.mark i) ≡ grey_count c + grey_weight (painted_cell (cell_at c i) k).mark
count_paint c i k h = ap (λ f. grey_count (paint_unless f c i k) + grey_weight (c.mark i)) (index_in c.size i h) ∙ go k
  where
    go : (k : Colour) → grey_count (paint_unless None c i k) + grey_weight (c.mark i) ≡ grey_count c + grey_weight (painted_cell (cell_at c i) k).mark
    go (Mark m) = count_changed c.mark c.size i m h
    go (Sweep s) = refl
