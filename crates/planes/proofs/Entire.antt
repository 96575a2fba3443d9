-- A planes heap as a whole: what each call does to its cells, to its soundness and to the memory beyond.
use Rattle.std.proofs.Common.{◌≡◌, ℕ, ◌*◌, ◌<◌, ◌≤◌, min, true, false, List, length, drop, None, Option, sym, ap, ◌∙◌, subst, inl, inr, arith, MutBor}
use Rattle.std.proofs.lemmas.List.{length-set}
use Rattle.std.proofs.lemmas.Bool.{cases_eq}
use Rattle.cells.specs.declared.cell.LinkRecord.{LinkRecord}
use Rattle.cells.specs.declared.cell.MarkColour.{MarkColour}
use Rattle.cells.specs.declared.cell.SweepColour.{SweepColour}
use Rattle.cells.specs.declared.cell.Colour.{Colour}
use Rattle.cells.specs.declared.cell.Colour.TheVariants.{Mark, Sweep}
use Rattle.cells.specs.declared.fault.HeapFault.{HeapFault}
use Rattle.cells.specs.Calls.{Lawful, exchange_cells, exchange_fault, exchange_unless, first_grey, paint_cells, write_cells}
use Rattle.cells.specs.Cells.{new_cells}
use Rattle.cells.specs.Fault.{index_fault, write_fault}
use Rattle.cells.specs.Record.{is_grey, new_links}
use Rattle.cells.proofs.Kept.{exchange_lawful, new_lawful, paint_lawful, write_lawful}
use Rattle.cells.proofs.Memory.{fill_length}
use Rattle.cells.proofs.Refused.{Accepted, Declined, accepted_below, accepted_none, none_found, write_declined}
use Rattle.cells.proofs.Seek.{none_grey}
use Rattle.planes.specs.declared.heap.PlanesHeap.{PlanesHeap}
use Rattle.planes.specs.declared.memory.PlanesMemory.{PlanesMemory}
use Rattle.planes.specs.Bits.{FirstSet, SameBits, bit_at, put_bit}
use Rattle.planes.specs.Planes.{is_mark_black, is_sweep_black, planes_cells, planes_front, planes_size}
use Rattle.planes.specs.Whole.{MarkPainted, Renewed, SameBeyond, SoundPlanes, SweepPainted, cells_of_planes, size_of_planes, swapped_parts, swapped_planes}
use Rattle.planes.proofs.Bitwise.{put_other, put_rest, put_same}
use Rattle.planes.proofs.Joined.{front_found, front_grey, mark_front, new_front, not_both, swap_front, sweep_front, with_links, write_front}

-- the same size after a call
resized : (h t : PlanesHeap) → SameBeyond h t → size_of_planes t ≡ size_of_planes h
resized h t b = λ x. min (b.links_long x) (min (8 * b.grey.long x) (min (min (8 * b.mark.long x) (8 * b.sweep.long x)) 16384))

-- an untouched plane
untouched : (n : ℕ) (a b : MutBor (List ℕ)) → b ≡ a → SameBits n a.now b.now
untouched n a b e = record { long = ap (λ x. length x.now) e; beyond = λ j _. ap (λ x. bit_at x.now j) e }

-- first grey
pub found_in : (h : PlanesHeap) (n k : ℕ) (r : Option ℕ) → n ≡ size_of_planes h → FirstSet h.memory.grey.now k n r → r ≡ first_grey (cells_of_planes h) k
found_in h n k r e f = front_found h.memory n k r f ∙ ap (λ x. first_grey (planes_front x h.memory) k) e

-- paint of a mark colour
module _ (h : PlanesHeap) (t : PlanesMemory) (n i : ℕ) (colour : Colour) (c : MarkColour) (p : MarkPainted i c h.memory t) (is : colour ≡ Mark c) (e : n ≡ size_of_planes h) (done : Accepted (index_fault n i)) where
  abbrev marked : PlanesHeap
  marked = record { memory = t }

  mark_ok : Accepted (index_fault (size_of_planes h) i)
  mark_ok = subst (λ k. Accepted (index_fault k i)) e done

  pub mark_beyond : SameBeyond h marked
  mark_beyond =
      let below = accepted_below (size_of_planes h) i mark_ok in
      record {
        links_long = ap (λ x. length x.now) p.links;
        links = ap (λ x. drop (size_of_planes h) x.now) p.links;
        grey = put_rest (size_of_planes h) h.memory.grey.now t.grey.now i (is_grey c) below (omega arith) p.grey;
        mark = put_rest (size_of_planes h) h.memory.mark.now t.mark.now i (is_mark_black c) below (omega arith) p.black;
        sweep = untouched (size_of_planes h) h.memory.sweep t.sweep p.sweep;
        lenders = record { links = ap (λ x. x.ghost_name) p.links; grey = p.lenders.0; mark = p.lenders.1; sweep = ap (λ x. x.ghost_name) p.sweep };
      }

  pub mark_cells : cells_of_planes marked ≡ paint_cells (cells_of_planes h) i colour
  mark_cells =
      ap (λ x. planes_front x t) (resized h marked mark_beyond) ∙ mark_front h.memory (size_of_planes h) (omega arith) t i c p mark_ok
      ∙ ap (paint_cells (cells_of_planes h) i) (sym is)

  pub mark_sound : SoundPlanes h → SoundPlanes marked
  mark_sound s =
      let below = accepted_below (size_of_planes h) i mark_ok in
      let in_grey : i < 8 * length h.memory.grey.now = omega arith in
      let in_mark : i < 8 * length h.memory.mark.now = omega arith in
      record {
        cells = subst Lawful (sym mark_cells) (paint_lawful (cells_of_planes h) i colour s.cells);
        apart = λ j hj on.
            let lj : j < size_of_planes h = omega (arith, hj, resized h marked mark_beyond) in
            let gj = ap (λ x. bit_at x j) p.grey in
            ap (λ x. bit_at x j) p.black ∙ elim (cases_eq j i) [
              | inl e ↦ ap (bit_at (put_bit h.memory.mark.now i (is_mark_black c))) e ∙ put_same h.memory.mark.now i (is_mark_black c) in_mark
                  ∙ not_both c (sym (put_same h.memory.grey.now i (is_grey c) in_grey) ∙ sym (ap (bit_at (put_bit h.memory.grey.now i (is_grey c))) e) ∙ sym gj ∙ on)
              | inr ne ↦ put_other h.memory.mark.now i j (is_mark_black c) in_mark ne
                  ∙ s.apart j lj (sym (put_other h.memory.grey.now i j (is_grey c) in_grey ne) ∙ sym gj ∙ on)
            ];
      }

-- paint of a sweep colour
module _ (h : PlanesHeap) (t : PlanesMemory) (n i : ℕ) (colour : Colour) (c : SweepColour) (p : SweepPainted i c h.memory t) (is : colour ≡ Sweep c) (e : n ≡ size_of_planes h) (done : Accepted (index_fault n i)) where
  abbrev swept : PlanesHeap
  swept = record { memory = t }

  sweep_ok : Accepted (index_fault (size_of_planes h) i)
  sweep_ok = subst (λ k. Accepted (index_fault k i)) e done

  pub sweep_beyond : SameBeyond h swept
  sweep_beyond = record {
    links_long = ap (λ x. length x.now) p.links;
    links = ap (λ x. drop (size_of_planes h) x.now) p.links;
    grey = untouched (size_of_planes h) h.memory.grey t.grey p.grey;
    mark = untouched (size_of_planes h) h.memory.mark t.mark p.mark;
    sweep = put_rest (size_of_planes h) h.memory.sweep.now t.sweep.now i (is_sweep_black c) (accepted_below (size_of_planes h) i sweep_ok) (omega arith) p.black;
    lenders = record { links = ap (λ x. x.ghost_name) p.links; grey = ap (λ x. x.ghost_name) p.grey; mark = ap (λ x. x.ghost_name) p.mark; sweep = p.lender };
  }

  pub sweep_cells : cells_of_planes swept ≡ paint_cells (cells_of_planes h) i colour
  sweep_cells =
      ap (λ x. planes_front x t) (resized h swept sweep_beyond) ∙ sweep_front h.memory (size_of_planes h) (omega arith) t i c p sweep_ok
      ∙ ap (paint_cells (cells_of_planes h) i) (sym is)

  pub sweep_sound : SoundPlanes h → SoundPlanes swept
  sweep_sound s = record {
    cells = subst Lawful (sym sweep_cells) (paint_lawful (cells_of_planes h) i colour s.cells);
    apart = λ j hj on.
        ap (λ x. bit_at x.now j) p.mark ∙ s.apart j (omega (arith, hj, resized h swept sweep_beyond)) (sym (ap (λ x. bit_at x.now j) p.grey) ∙ on);
  }

-- write: only the records change
module _ (h : PlanesHeap) (n i : ℕ) (links : LinkRecord) (e : n ≡ size_of_planes h) (done : Accepted (write_fault n i links.left links.right)) where
  abbrev written : PlanesHeap
  written = record { memory = with_links h.memory i links }

  write_resized : size_of_planes written ≡ size_of_planes h
  write_resized = ap (λ x. min x (min (8 * length h.memory.grey.now) (min (min (8 * length h.memory.mark.now) (8 * length h.memory.sweep.now)) 16384))) (length-set h.memory.links.now i links)

  pub written_cells : cells_of_planes written ≡ write_cells (cells_of_planes h) i links
  written_cells =
      ap (λ x. planes_front x (with_links h.memory i links)) write_resized
      ∙ write_front h.memory (size_of_planes h) (omega arith) i links (subst (λ k. Accepted (write_fault k i links.left links.right)) e done)

  pub written_sound : SoundPlanes h → SoundPlanes written
  written_sound s = record {
    cells = subst Lawful (sym written_cells) (write_lawful (cells_of_planes h) i links s.cells);
    apart = λ k hk on. s.apart k (omega (arith, hk, write_resized)) on;
  }

-- a refused write
pub unwritten : (h : PlanesHeap) (n i : ℕ) (links : LinkRecord) (x : HeapFault) → n ≡ size_of_planes h → Declined x (write_fault n i links.left links.right) → cells_of_planes h ≡ write_cells (cells_of_planes h) i links
unwritten h n i links x e refused = write_declined (cells_of_planes h) i links x (subst (λ k. Declined x (write_fault k i links.left links.right)) e refused)

-- exchange: the parts of the black planes change
pub swapped_size : (h : PlanesHeap) → size_of_planes (swapped_planes h) ≡ size_of_planes h
swapped_size h = omega arith

module _ (h : PlanesHeap) (done : Accepted (exchange_fault (cells_of_planes h))) where
  no_fault : exchange_fault (cells_of_planes h) ≡ None
  no_fault = accepted_none (exchange_fault (cells_of_planes h)) done

  no_first : first_grey (cells_of_planes h) 0 ≡ None
  no_first = none_found (first_grey (cells_of_planes h) 0) no_fault

  pub swap_cells : cells_of_planes (swapped_planes h) ≡ exchange_cells (cells_of_planes h)
  swap_cells =
      ap (λ x. planes_front x (swapped_parts h.memory)) (swapped_size h) ∙ swap_front h.memory (size_of_planes h) no_first
      ∙ ap (λ f. exchange_unless f (cells_of_planes h)) (sym no_fault)

  no_grey : (j : ℕ) → j < size_of_planes h → bit_at h.memory.grey.now j ≡ false
  no_grey j hj = sym (front_grey h.memory (size_of_planes h) j hj) ∙ none_grey (cells_of_planes h) 0 no_first j (omega arith) hj

  pub swap_sound : SoundPlanes h → SoundPlanes (swapped_planes h)
  swap_sound s = record {
    cells = subst Lawful (sym swap_cells) (exchange_lawful (cells_of_planes h) s.cells);
    apart = λ j hj on.
        let lj : j < size_of_planes h = omega (arith, hj, swapped_size h) in
        let z : true ≡ false = sym on ∙ no_grey j lj in cc;
  }

-- making
module _ (h t : PlanesMemory) (p : Renewed h t) where
  made_size : planes_size t ≡ planes_size h
  made_size =
      let fits : planes_size h ≤ length h.links.now = omega arith in
      let long = ap length p.records ∙ fill_length new_links h.links.now (planes_size h) fits in
      λ x. min (long x) (min (8 * p.greys.rest.long x) (min (min (8 * p.marks.rest.long x) (8 * p.sweeps.rest.long x)) 16384))

  pub made_cells : planes_cells t ≡ new_cells (planes_size h)
  made_cells = ap (λ x. planes_front x t) made_size ∙ new_front h t p

  pub made_sound : SoundPlanes (record { memory = t })
  made_sound = record {
    cells = subst Lawful (sym made_cells) (new_lawful (planes_size h) (omega arith));
    apart = λ j hj on. p.marks.clear j (omega (arith, hj, made_size));
  }
