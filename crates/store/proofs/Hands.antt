-- The changes of the hand and the gift of a cell, as the store makes them.
use Rattle.std.proofs.Common.{false, ◌≡◌, ℕ, zero, suc, ◌<◌, List, [], ◌∷◌, get_or, sym, refl, ap, ◌∙◌, subst, inl, arith}
use lib.ListN as list
use Rattle.std.specs.Option.{unwrap_or}
use Rattle.cells.specs.declared.content.Content.{Content}
use Rattle.cells.specs.declared.content.Content.TheVariants.{Nothing, Yarn, Cell}
use Rattle.cells.specs.declared.cell.Side.{Side}
use Rattle.cells.specs.declared.cell.Side.TheVariants.{Left, Right}
use Rattle.cells.specs.Calls.{InRange}
use Rattle.cells.specs.declared.heap.Heap.{Ghosts}
use Rattle.cells.specs.Cells.{Cells, cell_at, changed_at}
use Rattle.cells.specs.Record.{cell_named, content_on}
use Rattle.cells.proofs.Memory.{get_or_changed}
use Rattle.model.specs.Hand.{content_at, move_into, tie_to, tied_cells}
use Rattle.model.specs.History.{Event.gives, Event.moves}
use Rattle.model.specs.Invariant.{Invariant}
use Rattle.model.specs.State.{State, with_cells, with_hold}
use Rattle.model.specs.Take.{give_one, take_front}
use Rattle.model.proofs.Histories.{side_known, side_range}
use Rattle.model.proofs.Steps.{Step.moved, Step.set, Step.tied, Step.took, step_fine}
use Rattle.model.proofs.Touched.{Touched.by_hold}
use Rattle.lines.specs.declared.cell.PatternCell.{PatternCell}
use Rattle.steps.specs.Steps.{cell_in, cells_given, cells_shaded}
use Rattle.store.specs.declared.free_list.FreeList.{FreeList}
use Rattle.store.specs.declared.take.Order.{Order}
use Rattle.steps.proofs.Given.{used_more}
use Rattle.store.specs.declared.table.HoldTable.{HoldTable}
use Rattle.store.specs.declared.whole.Store.{Store}
use Rattle.store.specs.Fits.{IsHold, OrderFits}
use Rattle.store.specs.Listing.{list_without_front}
use Rattle.store.specs.Plain.{IsPlain}
use Rattle.store.specs.View.{InState, LastIs, WellFormed, chain, view, with_heap}
use Rattle.store.proofs.Forming.{FrontIs, chain_length, front_of_chain, in_state, list_stays}

-- a table of holds in which hold h was set
pub record IsSet (t : HoldTable) (h : ℕ) (x : Content) (u : HoldTable) : Type 0 where
  pub contents : u.contents ≡ list.set t.contents h x
  pub count : u.count ≡ t.count

table_changes : (t u : HoldTable) (h : ℕ) (x : Content) → h < t.count → IsSet t h x u → (λ k. get_or u.contents k Nothing) ≡ changed_at (λ k. get_or t.contents k Nothing) h x
table_changes t u h x l q = ap (λ xs. λ k. get_or xs k Nothing) q.contents ∙ get_or_changed t.contents h x Nothing (let few = t.few in let wide = t.wide in omega arith)

-- a content that names no cell is in range
plain_range : (m : ℕ) (x : Content) → IsPlain x → InRange m x
plain_range m Nothing p = tt
plain_range m (Yarn y) p = p
plain_range m (Cell c) p = absurd p

-- a side of a cell record is that side of the cell
pub side_of : (c : Cells) (side : Side) (i : ℕ) → content_on (cell_at c i) side ≡ content_at c side i
side_of c Left i = refl
side_of c Right i = refl

module _ {H : Type 0} (memory : Ghosts H) (s : Store H) (a : WellFormed memory s) where
  v : Invariant (view memory s)
  v = a.invariant

  -- other cells in the heap, and no more
  pub cells_state : (heap : H) (c : Cells) → memory.meaning heap ≡ c → memory.sound heap → c.size ≡ (memory.meaning s.heap).size → Invariant (with_cells (view memory s) c) → InState memory (with_heap s heap) (with_cells (view memory s) c)
  cells_state heap c e snd size w = in_state memory (with_heap s heap) (with_cells (view memory s) c) e snd w (record {
    count_is = refl;
    holds_are = refl;
    stage_is = refl;
    place_is = refl;
    list = list_stays memory s c.size a size;
  })

  -- the same, and a hold with another content
  pub hold_state : (heap : H) (c : Cells) (holds : HoldTable) (h : ℕ) (x : Content) → memory.meaning heap ≡ c → memory.sound heap → c.size ≡ (memory.meaning s.heap).size → IsHold s h → IsSet s.holds h x holds → Invariant (with_hold (with_cells (view memory s) c) h x)
      → InState memory (record s { heap = heap; holds = holds }) (with_hold (with_cells (view memory s) c) h x)
  hold_state heap c holds h x e snd size l q w = in_state memory (record s { heap = heap; holds = holds }) (with_hold (with_cells (view memory s) c) h x) e snd w (record {
    count_is = q.count;
    holds_are = table_changes s.holds holds h x l q;
    stage_is = refl;
    place_is = refl;
    list = list_stays memory s c.size a size;
  })

  -- a yarn, or nothing
  pub set_state : (holds : HoldTable) (h : ℕ) (x : Content) → IsHold s h → IsPlain x → IsSet s.holds h x holds
      → InState memory (record s { holds = holds }) (with_hold (view memory s) h x)
  set_state holds h x l plain q = hold_state s.heap (memory.meaning s.heap) holds h x refl a.heap refl l q (step_fine (view memory s) (with_hold (view memory s) h x) moves v (set (view memory s) h x (plain_range (memory.meaning s.heap).size x plain) (λ c e. subst IsPlain e plain))).0

  -- copy
  pub copy_state : (heap : H) (holds : HoldTable) (h g : ℕ) (x : Content) → IsHold s h → IsHold s g → x ≡ get_or s.holds.contents g Nothing
      → (memory.sound s.heap → InRange (memory.meaning s.heap).size x → memory.meaning heap ≡ cells_shaded (memory.meaning s.heap) x) → (memory.sound s.heap → memory.sound heap) → IsSet s.holds h x holds
      → InState memory (record s { heap = heap; holds = holds }) (move_into (view memory s) h ((view memory s).hold g))
  copy_state heap holds h g x lh lg is shaded kept q =
      let e : x ≡ (view memory s).hold g = is in
      let made = shaded a.heap (subst (InRange (memory.meaning s.heap).size) (sym e) (v.hold_range g)) in
      subst (λ y. InState memory (record s { heap = heap; holds = holds }) (move_into (view memory s) h y)) e
      (hold_state heap (cells_shaded (memory.meaning s.heap) x) holds h x made (kept a.heap) refl lh q (subst (λ y. Invariant (move_into (view memory s) h y)) (sym e) (step_fine (view memory s) (move_into (view memory s) h ((view memory s).hold g)) moves v (moved (view memory s) h ((view memory s).hold g) (v.hold_range g) (λ c z. by_hold g c (lg, z)))).0))

  -- follow
  pub follow_state : (heap : H) (holds : HoldTable) (h i : ℕ) (side : Side) (g : ℕ) (x : Content) → IsHold s h → IsHold s g → (view memory s).hold h ≡ Cell i → (memory.sound s.heap → x ≡ content_at (memory.meaning s.heap) side i)
      → (memory.sound s.heap → InRange (memory.meaning s.heap).size x → memory.meaning heap ≡ cells_shaded (memory.meaning s.heap) x) → (memory.sound s.heap → memory.sound heap) → IsSet s.holds g x holds
      → InState memory (record s { heap = heap; holds = holds }) (move_into (view memory s) g (content_at (memory.meaning s.heap) side i))
  follow_state heap holds h i side g x lh lg cell is shaded kept q =
      let e : x ≡ content_at (memory.meaning s.heap) side i = is a.heap in
      let r : InRange (memory.meaning s.heap).size (content_at (memory.meaning s.heap) side i) = side_range (view memory s) v side i in
      let made = shaded a.heap (subst (InRange (memory.meaning s.heap).size) (sym e) r) in
      subst (λ y. InState memory (record s { heap = heap; holds = holds }) (move_into (view memory s) g y)) e
      (hold_state heap (cells_shaded (memory.meaning s.heap) x) holds g x made (kept a.heap) refl lg q (subst (λ y. Invariant (move_into (view memory s) g y)) (sym e) (step_fine (view memory s) (move_into (view memory s) g (content_at (memory.meaning s.heap) side i)) moves v (moved (view memory s) g (content_at (memory.meaning s.heap) side i) r (side_known (view memory s) side i (by_hold h i (lh, cell))))).0))

  -- tie
  pub tie_state : (heap : H) (h i : ℕ) (side : Side) (g : ℕ) (x : Content) → IsHold s h → IsHold s g → (view memory s).hold h ≡ Cell i → x ≡ get_or s.holds.contents g Nothing
      → (memory.sound s.heap → i < (memory.meaning s.heap).size → InRange (memory.meaning s.heap).size x → memory.meaning heap ≡ tied_cells (cells_shaded (memory.meaning s.heap) x) side i x) → (memory.sound s.heap → memory.sound heap)
      → InState memory (with_heap s heap) (tie_to (view memory s) side i ((view memory s).hold g))
  tie_state heap h i side g x lh lg cell is tied' sounds =
      let e : x ≡ (view memory s).hold g = is in
      let kept = v.held_kept h i (lh, cell) in
      let made = tied' a.heap kept.0 (subst (InRange (memory.meaning s.heap).size) (sym e) (v.hold_range g)) in
      subst (λ y. InState memory (with_heap s heap) (tie_to (view memory s) side i y)) e
      (cells_state heap (tied_cells (cells_shaded (memory.meaning s.heap) x) side i x) made (sounds a.heap) refl (subst (λ y. Invariant (tie_to (view memory s) side i y)) (sym e) (step_fine (view memory s) (tie_to (view memory s) side i ((view memory s).hold g)) moves v (tied (view memory s) side i ((view memory s).hold g) kept.1 (v.hold_range g) (λ c z. by_hold g c (lg, z)))).0))

-- the cell that a content names, or 0
pub cell_or : (x : Content) → unwrap_or (cell_named x) 0 ≡ cell_in x
cell_or Nothing = refl
cell_or (Yarn y) = refl
cell_or (Cell i) = refl

last_rest : (x : ℕ) (xs : List ℕ) (last : ℕ) → LastIs (x ∷ xs) last → LastIs xs last
last_rest x [] last l = tt
last_rest x (y ∷ ys) last l = l

-- the front of the free list is given away
module _ {H : Type 0} (memory : Ghosts H) (s : Store H) (a : WellFormed memory s) where
  pub give_state : (heap : H) (holds : HoldTable) (order : Order) (next : ℕ) (free : FreeList) (x y : Content) → 0 < s.free.count → OrderFits s order
      → x ≡ get_or s.holds.contents order.left Nothing → y ≡ get_or s.holds.contents order.right Nothing
      → (memory.sound s.heap → next ≡ cell_in ((memory.meaning s.heap).left s.free.front)) → free ≡ list_without_front s.free next
      → (memory.sound s.heap → s.free.front < (memory.meaning s.heap).size → InRange (memory.meaning s.heap).size x × InRange (memory.meaning s.heap).size y → memory.meaning heap ≡ cells_given (memory.meaning s.heap) s.free.front (record { joint = order.joint; left = x; right = y }) s.place) → (memory.sound s.heap → memory.sound heap)
      → IsSet s.holds order.hold (Cell s.free.front) holds
      → InState memory (record s { heap = heap; holds = holds; free = free }) (take_front (view memory s) (view memory s).free order.hold order.joint order.left order.right)
  give_state heap holds order next free x y some fits ex ey enext efree given kept q = by_count s.free.count refl some
    where
      by_count : (n : ℕ) → s.free.count ≡ n → 0 < n → InState memory (record s { heap = heap; holds = holds; free = free }) (take_front (view memory s) (view memory s).free order.hold order.joint order.left order.right)
      by_count zero e z = absurd (omega arith)
      by_count (suc n) e z =
          let i = s.free.front in
          let rest : List ℕ = chain (memory.meaning s.heap).left n (cell_in ((memory.meaning s.heap).left i)) in
          let list : (view memory s).free ≡ i ∷ rest = ap (λ k. chain (memory.meaning s.heap).left k i) e in
          let v = a.invariant in
          let below : i < (memory.meaning s.heap).size = (v.free_list.only i (rw list (inl refl))).0 in
          let made = given a.heap below (subst (InRange (memory.meaning s.heap).size) (sym ex) (v.hold_range order.left), subst (InRange (memory.meaning s.heap).size) (sym ey) (v.hold_range order.right)) in
          let line : PatternCell = record { joint = order.joint; left = (view memory s).hold order.left; right = (view memory s).hold order.right } in
          let w : State = give_one (view memory s) order.hold i rest line in
          let cells : memory.meaning heap ≡ w.cells = made ∙ (λ t. cells_given (memory.meaning s.heap) i (record { joint = order.joint; left = ex t; right = ey t }) s.place) ∙ used_more (cells_shaded (cells_shaded (memory.meaning s.heap) line.left) line.right) (λ _. false) (λ _. line) s.place i in
          let st : InState memory (record s { heap = heap; holds = holds; free = list_without_front s.free next }) w = in_state memory (record s { heap = heap; holds = holds; free = list_without_front s.free next }) w cells (kept a.heap)
          (step_fine (view memory s) w (gives (i ∷ [])) v (took (view memory s) order.hold i rest order.joint order.left order.right list fits.left fits.right)).0 (record {
            count_is = q.count;
            holds_are = table_changes s.holds holds order.hold (Cell i) fits.hold q;
            stage_is = refl;
            place_is = refl;
            list = record {
              free_count = (let k = chain_length (memory.meaning s.heap).left n (cell_in ((memory.meaning s.heap).left i)) in omega arith);
              front_is = subst (λ f. FrontIs rest f) (sym (enext a.heap)) (front_of_chain (memory.meaning s.heap).left n (cell_in ((memory.meaning s.heap).left i)));
              last_is = last_rest i rest s.free.last (subst (λ xs. LastIs xs s.free.last) list a.last);
              last_below = a.last_below;
            };
          }) in
          subst (λ f. InState memory (record s { heap = heap; holds = holds; free = f }) (take_front (view memory s) (view memory s).free order.hold order.joint order.left order.right)) (sym efree)
          (subst (λ xs. InState memory (record s { heap = heap; holds = holds; free = list_without_front s.free next }) (take_front (view memory s) xs order.hold order.joint order.left order.right)) (sym list) st)
