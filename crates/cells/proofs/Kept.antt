-- Every call leaves lawful cells lawful.
use Rattle.std.proofs.Common.{◌≡◌, ℕ, ◌≤◌, Some, None, Option, refl, ap, arith}
use Rattle.std.proofs.lemmas.Bool.{ne_eqb}
use Rattle.cells.specs.declared.cell.LinkRecord.{LinkRecord}
use Rattle.cells.specs.declared.cell.Colour.{Colour}
use Rattle.cells.specs.declared.cell.Colour.TheVariants.{Mark, Sweep}
use Rattle.cells.specs.declared.fault.HeapFault.{HeapFault}
use Rattle.cells.specs.Cells.{Cells, new_cells}
use Rattle.cells.specs.Calls.{InRange, Lawful, exchange_cells, exchange_fault, exchange_unless, paint_cells, paint_unless, write_cells, write_unless}
use Rattle.cells.specs.Fault.{index_fault, write_fault}
use Rattle.cells.specs.Record.{exchanged_cell}
use Rattle.cells.proofs.Changed.{changed_by}
use Rattle.cells.proofs.Refused.{index_below, write_none}

pub write_lawful : (c : Cells) (i : ℕ) (links : LinkRecord) → Lawful c → Lawful (write_cells c i links)
write_lawful c i links w = go (write_fault c.size i links.left links.right) refl
  where
    go : (f : Option HeapFault) → write_fault c.size i links.left links.right ≡ f → Lawful (write_unless f c i links)
    go (Some x) e = w
    go None e =
        let p = write_none c.size i links.left links.right e in
        let below = p.0 in
        record {
          few = w.few;
          left_in_range = λ k. changed_by (λ _ x. InRange c.size x) c.left i links.left k (λ _. p.1) (λ _. w.left_in_range k);
          right_in_range = λ k. changed_by (λ _ x. InRange c.size x) c.right i links.right k (λ _. p.2) (λ _. w.right_in_range k);
          new_beyond = λ k h. let ne : k ≡ i → ⊥ = λ q. omega arith in rw (ne_eqb k i ne) (w.new_beyond k h);
        }

pub paint_lawful : (c : Cells) (i : ℕ) (k : Colour) → Lawful c → Lawful (paint_cells c i k)
paint_lawful c i k w = go (index_fault c.size i) refl k
  where
    go : (f : Option HeapFault) → index_fault c.size i ≡ f → (k : Colour) → Lawful (paint_unless f c i k)
    go (Some x) e k = w
    go None e (Mark m) =
        let below = index_below c.size i e in
        record {
          few = w.few;
          left_in_range = w.left_in_range;
          right_in_range = w.right_in_range;
          new_beyond = λ j h. let ne : j ≡ i → ⊥ = λ q. omega arith in rw (ne_eqb j i ne) (w.new_beyond j h);
        }
    go None e (Sweep s) =
        let below = index_below c.size i e in
        record {
          few = w.few;
          left_in_range = w.left_in_range;
          right_in_range = w.right_in_range;
          new_beyond = λ j h. let ne : j ≡ i → ⊥ = λ q. omega arith in rw (ne_eqb j i ne) (w.new_beyond j h);
        }

pub exchange_lawful : (c : Cells) → Lawful c → Lawful (exchange_cells c)
exchange_lawful c w = go (exchange_fault c)
  where
    go : (f : Option HeapFault) → Lawful (exchange_unless f c)
    go (Some x) = w
    go None = record { few = w.few; left_in_range = w.left_in_range; right_in_range = w.right_in_range; new_beyond = λ j h. ap exchanged_cell (w.new_beyond j h) }

pub new_lawful : (m : ℕ) → m ≤ 16384 → Lawful (new_cells m)
new_lawful m h = record { few = h; left_in_range = λ _. tt; right_in_range = λ _. tt; new_beyond = λ _ _. refl }
