-- What a store means: the abstract state that it is in.
use Rattle.std.specs.Prelude.{◌≡◌, ℕ, zero, suc, ◌<◌, List, [], ◌∷◌, slice_index_or}
use Rattle.cells.specs.declared.content.Content.{Content}
use Rattle.cells.specs.declared.content.Content.TheVariants.{Nothing}
use Rattle.cells.specs.declared.heap.Heap.{Ghosts}
use Rattle.cells.specs.Cells.{Cells}
use Rattle.model.specs.Invariant.{Invariant}
use Rattle.model.specs.State.{State}
use Rattle.steps.specs.Steps.{cell_in}
use Rattle.store.specs.declared.whole.Store.{Store}

-- n cells from `front` on, each the left of the one before
abbrev pub chain : (ℕ → Content) → ℕ → ℕ → List ℕ
chain left zero front = []
chain left (suc n) front = front ∷ chain left n (cell_in (left front))

-- the state of a store whose heap means c
abbrev pub view_with : {H : Type 0} → Cells → Store H → State
view_with c s = record {
  cells = c;
  hold_count = s.holds.count;
  hold = λ h. slice_index_or s.holds.contents h Nothing;
  stage = s.stage;
  place = s.place;
  free = chain c.left s.free.count s.free.front;
}

-- the state of a store, by what its heap means
abbrev pub view : {H : Type 0} → Ghosts H → Store H → State
view memory s = view_with (memory.meaning s.heap) s

-- the store with another heap
abbrev pub with_heap : {H : Type 0} → Store H → H → Store H
with_heap s heap = record s { heap = heap }

-- the last of a list, if it has any
abbrev pub LastIs : List ℕ → ℕ → Type 0
LastIs [] last = Unit {0}
LastIs (x ∷ []) last = x ≡ last
LastIs (x ∷ y ∷ ys) last = LastIs (y ∷ ys) last

-- A store as open and calls leave it: the heap is sound, the invariant holds of its state, and it knows the end of its
-- free list. Open gives this, and every call keeps it.
pub record WellFormed {H : Type 0} (memory : Ghosts H) (s : Store H) : Type 0 where
  pub heap : memory.sound s.heap
  pub invariant : Invariant (view memory s)
  pub last : LastIs (view memory s).free s.free.last
  pub last_below : 0 < (memory.meaning s.heap).size → s.free.last < (memory.meaning s.heap).size

-- a well-formed store in the state w
pub record InState {H : Type 0} (memory : Ghosts H) (s : Store H) (w : State) : Type 0 where
  pub state : view memory s ≡ w
  pub formed : WellFormed memory s

-- A call on a well-formed store s answers what its state does,
abbrev pub Answers : {H A : Type 0} → Ghosts H → Store H → A → (State → A) → Type 0
Answers memory s result answer = WellFormed memory s → result ≡ answer (view memory s)

-- .. and leaves t, a well-formed store in the state that the step gives.
abbrev pub Becomes : {H : Type 0} → Ghosts H → Store H → Store H → (State → State) → Type 0
Becomes memory s t step = WellFormed memory s → InState memory t (step (view memory s))
