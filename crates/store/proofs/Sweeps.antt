-- A sweep, a turn and a unit of the store are those of its state.
use Rattle.std.proofs.Common.{◌≡◌, ℕ, ◌+◌, ◌-◌, ◌^◌, min, ◌<◌, ◌≤◌, Bool, true, false, cond, Some, None, Option, IfSome, eqb, List, [], ◌∷◌, ◌++◌, length, sym, refl, ap, ◌∙◌, subst, arith}
use Rattle.std.proofs.lemmas.List.{length_push}
use Rattle.std.proofs.lemmas.Bool.{cond-false, cond-true, ne_eqb}
use Rattle.cells.specs.declared.content.Content.{Content}
use Rattle.cells.specs.declared.content.Content.TheVariants.{Nothing, Cell}
use Rattle.cells.specs.declared.cell.SweepColour.TheVariants as sweep
use Rattle.cells.specs.declared.content.Joint.TheVariants.{Beside}
use Rattle.cells.specs.declared.cell.Tag.TheVariants.{Free, Used}
use Rattle.cells.specs.Calls.{exchange_cells, exchange_unless}
use Rattle.cells.specs.declared.heap.Heap.{Ghosts}
use Rattle.cells.specs.Cells.{Cells, changed_at}
use Rattle.numbering.proofs.Lists.{few_below}
use Rattle.model.specs.declared.stage.Stage.TheVariants.{AtHold}
use Rattle.model.specs.Collector.{can_turn, pass_by, put_back, turned, whitened_cells}
use Rattle.model.specs.FreeList.{linked_behind, put_back_cells}
use Rattle.model.specs.Invariant.{Invariant}
use Rattle.model.specs.State.{State, size_of}
use Rattle.model.proofs.Moves.{can_turn_parts, pass_keeps, put_back_keeps, turn_keeps}
use Rattle.model.proofs.Theorems.{heap_refuses_nothing}
use Rattle.steps.specs.Steps.{cells_freed, left_behind}
use Rattle.store.specs.declared.free_list.FreeList.{FreeList}
use Rattle.store.specs.declared.whole.Store.{Store}
use Rattle.store.specs.Fits.{PlaceIsCell}
use Rattle.store.specs.Listing.{list_end, list_pushed}
use Rattle.store.specs.View.{InState, LastIs, WellFormed, view}
use Rattle.store.proofs.Forming.{FrontIs, ListIs, formed_list, in_state}

-- the free list has no more cells than there are
pub few_free : (w : State) → Invariant w → length w.free ≤ size_of w
few_free w v = few_below (size_of w) w.free v.free_list.once (λ i h. (v.free_list.only i h).0)

-- linking behind the last cell that the store knows
link_last : (x : ℕ) (xs : List ℕ) (left : ℕ → Content) (last p : ℕ) → LastIs (x ∷ xs) last → changed_at left last (Cell p) ≡ linked_behind (x ∷ xs) left p
link_last x [] left last p l = ap (λ y. changed_at left y (Cell p)) (sym l)
link_last x (y ∷ ys) left last p l = link_last y ys left last p l

link_end : (free : List ℕ) (list : FreeList) (left : ℕ → Content) (p : ℕ) → LastIs free list.last → list.count ≡ length free → left_behind (list_end list) left p ≡ linked_behind free left p
link_end [] list left p l e = rw e refl
link_end (x ∷ xs) list left p l e = ap (λ o. left_behind o left p) (cond-false (eqb list.count 0) None (Some list.last) (ne_eqb list.count 0 (λ z. omega arith))) ∙ link_last x xs left list.last p l

freed_is : (c : Cells) (free : List ℕ) (list : FreeList) (p : ℕ) → LastIs free list.last → list.count ≡ length free → cells_freed c (list_end list) p ≡ put_back_cells c free p
freed_is c free list p l e = ap (λ left. record { size = c.size; joint = changed_at c.joint p Beside; left = changed_at left p Nothing; right = changed_at c.right p Nothing; tag = changed_at c.tag p Free; mark = c.mark; sweep = c.sweep }) (link_end free list c.left p l e)

end_below : (list : FreeList) (m : ℕ) → list.last < m → IfSome (list_end list) (λ i. i < m)
end_below list m h = go (eqb list.count 0)
  where
    go : (b : Bool) → IfSome (cond b None (Some list.last)) (λ i. i < m)
    go true = tt
    go false = h

last_pushed : (xs : List ℕ) (p : ℕ) → LastIs (xs ++ (p ∷ [])) p
last_pushed [] p = refl
last_pushed (x ∷ []) p = refl
last_pushed (x ∷ y ∷ ys) p = last_pushed (y ∷ ys) p

front_pushed : (xs : List ℕ) (n front p : ℕ) → n ≡ length xs → FrontIs xs front → FrontIs (xs ++ (p ∷ [])) (cond (eqb n 0) p front)
front_pushed [] n front p e f = sym (cond-true (eqb n 0) p front (rw e refl))
front_pushed (x ∷ xs) n front p e f = f ∙ sym (cond-false (eqb n 0) p front (ne_eqb n 0 (λ z. omega arith)))

module _ {H : Type 0} (memory : Ghosts H) (s : Store H) (a : WellFormed memory s) where
  p : ListIs s.free (view memory s).free (memory.meaning s.heap).size
  p = formed_list memory s a

  -- the counts of a well-formed store are small
  pub count_few : s.free.count ≤ 16384
  count_few = let f = few_free (view memory s) a.invariant in let n = p.free_count in let m = a.invariant.few in omega arith

  pub put_back_state : (h : H) (place : ℕ) (last : Option ℕ) (free : FreeList) → PlaceIsCell memory s → (memory.meaning s.heap).tag s.place ≡ Used → (memory.meaning s.heap).sweep s.place ≡ sweep.White
      → (memory.sound s.heap → s.place < (memory.meaning s.heap).size → IfSome last (λ i. i < (memory.meaning s.heap).size) → memory.meaning h ≡ cells_freed (memory.meaning s.heap) last s.place) → (memory.sound s.heap → memory.sound h) → last ≡ list_end s.free
      → free ≡ list_pushed s.free s.place → place ≡ min (s.place + 1) (2 ^ 32 - 1)
      → InState memory (record s { heap = h; place = place; free = free }) (put_back (view memory s))
  put_back_state h place last free below used white freed kept el ef ep =
      let made = freed a.heap below (rw el (end_below s.free (memory.meaning s.heap).size (a.last_below (omega arith)))) ∙ ap (λ o. cells_freed (memory.meaning s.heap) o s.place) el in
      let t : Store H = record s { heap = h; place = place; free = list_pushed s.free s.place } in
      subst (λ f. InState memory (record s { heap = h; place = place; free = f }) (put_back (view memory s))) (sym ef) (in_state memory t (put_back (view memory s))
      (made ∙ freed_is (memory.meaning s.heap) (view memory s).free s.free s.place a.last p.free_count)
      (kept a.heap) (put_back_keeps (view memory s) a.invariant below used white) (record {
        count_is = refl;
        holds_are = refl;
        stage_is = refl;
        place_is = (let few = a.invariant.few in omega arith);
        list = record {
          free_count = (let n = p.free_count in let m = count_few in let l = length_push (view memory s).free s.place in omega arith);
          front_is = front_pushed (view memory s).free s.free.count s.free.front s.place p.free_count p.front_is;
          last_is = last_pushed (view memory s).free s.place;
          last_below = λ _. below;
        };
      }))

  pub pass_state : (h : H) (place : ℕ) → PlaceIsCell memory s → ((memory.meaning s.heap).tag s.place ≡ Used → (memory.meaning s.heap).sweep s.place ≡ sweep.Black)
      → (memory.sound s.heap → s.place < (memory.meaning s.heap).size → memory.meaning h ≡ whitened_cells (memory.meaning s.heap) s.place) → (memory.sound s.heap → memory.sound h) → place ≡ min (s.place + 1) (2 ^ 32 - 1)
      → InState memory (record s { heap = h; place = place }) (pass_by (view memory s))
  pass_state h place below stays white kept ep =
      in_state memory (record s { heap = h; place = place }) (pass_by (view memory s))
      (white a.heap below) (kept a.heap)
      (pass_keeps (view memory s) a.invariant below stays) (record {
        count_is = refl;
        holds_are = refl;
        stage_is = refl;
        place_is = (let few = a.invariant.few in omega arith);
        list = p;
      })

  pub turn_state : (h : H) → can_turn (view memory s) ≡ true → (memory.sound s.heap → memory.meaning h ≡ exchange_cells (memory.meaning s.heap)) → (memory.sound s.heap → memory.sound h)
      → InState memory (record s { heap = h; stage = AtHold 0; place = 0 }) (turned (view memory s))
  turn_state h e exchanged kept =
      let q = can_turn_parts (view memory s) e in
      in_state memory (record s { heap = h; stage = AtHold 0; place = 0 }) (turned (view memory s))
      (exchanged a.heap ∙ ap (λ f. exchange_unless f (memory.meaning s.heap)) ((heap_refuses_nothing (view memory s) a.invariant).exchange e)) (kept a.heap)
      (turn_keeps (view memory s) q.0 q.1 a.invariant) (record {
        count_is = refl;
        holds_are = refl;
        stage_is = refl;
        place_is = refl;
        list = p;
      })
