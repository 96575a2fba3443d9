-- How a store is shown to be well formed and in a given state.
use Rattle.std.proofs.Common.{◌≡◌, ℕ, zero, suc, ◌+◌, ◌-◌, ◌<◌, ◌≤◌, List, [], ◌∷◌, length, get_or, replicate, sym, refl, ap, ◌∙◌, subst, arith}
use Rattle.std.proofs.lemmas.Grind.{common_steps}
use mathlib.Core.Path.{fun_ext}
use Rattle.cells.specs.declared.content.Content.{Content}
use Rattle.cells.specs.declared.content.Content.TheVariants.{Nothing, Cell}
use Rattle.cells.specs.declared.heap.Heap.{Ghosts}
use Rattle.numbering.specs.Lists.{count_from}
use Rattle.numbering.proofs.Lists.{length_count}
use Rattle.model.specs.declared.stage.Stage.TheVariants.{AtHold}
use Rattle.model.specs.FreeList.{Linked}
use Rattle.model.specs.Invariant.{Invariant}
use Rattle.model.specs.State.{State, clipped_holds, opened, opened_cells, size_of}
use Rattle.model.proofs.Opened.{opened_keeps}
use Rattle.steps.specs.Steps.{cell_in}
use Rattle.store.specs.declared.free_list.FreeList.{FreeList}
use Rattle.store.specs.declared.table.HoldTable.{HoldTable}
use Rattle.store.specs.declared.whole.Store.{Store}
use Rattle.store.specs.Listing.{list_of_all}
use Rattle.store.specs.View.{InState, LastIs, WellFormed, chain, view, view_with}

-- the first of a list, if it has any
abbrev pub FrontIs : List ℕ → ℕ → Type 0
FrontIs [] front = Unit {0}
FrontIs (x ∷ xs) front = x ≡ front

-- a linked list is what the links give from its front on
pub chain_is : (left : ℕ → Content) (xs : List ℕ) (front : ℕ) → Linked left xs → FrontIs xs front → chain left (length xs) front ≡ xs
chain_is left [] front l f = refl
chain_is left (x ∷ []) front l f = ap (λ y. y ∷ []) (sym f)
chain_is left (x ∷ y ∷ ys) front l f =
    let z : left front ≡ Cell y = ap left (sym f) ∙ l.0 in
    ap (λ c. front ∷ chain left (length (y ∷ ys)) (cell_in c)) z ∙ ap (λ zs. front ∷ zs) (chain_is left (y ∷ ys) y l.1 refl) ∙ ap (λ w. w ∷ y ∷ ys) (sym f)

pub chain_length : (left : ℕ → Content) (n front : ℕ) → length (chain left n front) ≡ n
chain_length left zero front = refl
chain_length left (suc n) front = ap suc (chain_length left n (cell_in (left front)))

-- A free list as the store keeps it, where the state has `free` and so many cells.
pub record ListIs (list : FreeList) (free : List ℕ) (size : ℕ) : Type 0 where
  pub free_count : list.count ≡ length free
  pub front_is : FrontIs free list.front
  pub last_is : LastIs free list.last
  pub last_below : 0 < size → list.last < size

-- The parts of a store in the state w.
pub record Parts {H : Type 0} (t : Store H) (w : State) : Type 0 where
  pub count_is : t.holds.count ≡ w.hold_count
  pub holds_are : (λ h. get_or t.holds.contents h Nothing) ≡ w.hold
  pub stage_is : t.stage ≡ w.stage
  pub place_is : t.place ≡ w.place
  pub list : ListIs t.free w.free (size_of w)

-- With a sound heap that means the cells of w, and the invariant of w, the store is in the state w.
pub in_state : {H : Type 0} (memory : Ghosts H) (t : Store H) (w : State) → memory.meaning t.heap ≡ w.cells → memory.sound t.heap → Invariant w → Parts t w → InState memory t w
in_state memory t w e snd v p =
    let free : chain w.cells.left t.free.count t.free.front ≡ w.free = ap (λ n. chain w.cells.left n t.free.front) p.list.free_count ∙ chain_is w.cells.left w.free t.free.front v.free_list.linked p.list.front_is in
    let st : view memory t ≡ w = ap (λ d. view_with d t) e ∙ (λ i. record { cells = w.cells; hold_count = p.count_is i; hold = p.holds_are i; stage = p.stage_is i; place = p.place_is i; free = free i }) in
    record {
      state = st;
      formed = record {
        heap = snd;
        invariant = subst Invariant (sym st) v;
        last = subst (λ s. LastIs s.free t.free.last) (sym st) p.list.last_is;
        last_below = subst (λ d. 0 < d.size → t.free.last < d.size) (sym e) p.list.last_below;
      };
    }

-- What is known of the front of a chain.
pub front_of_chain : (left : ℕ → Content) (n front : ℕ) → FrontIs (chain left n front) front
front_of_chain left zero front = tt
front_of_chain left (suc n) front = refl

-- The free list of a well-formed store,
pub formed_list : {H : Type 0} (memory : Ghosts H) (s : Store H) → WellFormed memory s → ListIs s.free (view memory s).free (memory.meaning s.heap).size
formed_list memory s a = record {
  free_count = sym (chain_length (memory.meaning s.heap).left s.free.count s.free.front);
  front_is = front_of_chain (memory.meaning s.heap).left s.free.count s.free.front;
  last_is = a.last;
  last_below = a.last_below;
}

-- and the same where a step leaves it, and the number of cells, as they were.
pub list_stays : {H : Type 0} (memory : Ghosts H) (s : Store H) (size : ℕ) → WellFormed memory s → size ≡ (memory.meaning s.heap).size → ListIs s.free (view memory s).free size
list_stays memory s size a e = subst (ListIs s.free (view memory s).free) (sym e) (formed_list memory s a)

-- A new store.

last_of_count : (k n last : ℕ) → k + n ≡ suc last → LastIs (count_from k n) last
last_of_count k zero last e = tt
last_of_count k (suc zero) last e = omega arith
last_of_count k (suc (suc n)) last e = last_of_count (suc k) (suc n) last (omega arith)

last_of_all : (m : ℕ) → LastIs (count_from 0 m) (m - 1)
last_of_all zero = tt
last_of_all (suc n) = last_of_count 0 (suc n) (suc n - 1) (omega arith)

front_of_all : (m : ℕ) → FrontIs (count_from 0 m) 0
front_of_all zero = tt
front_of_all (suc n) = refl

all_nothing : (n h : ℕ) → get_or (replicate n Nothing) h Nothing ≡ Nothing
all_nothing n h = grind (arith, common_steps)

abbrev pub new_store : {H : Type 0} → H → ℕ → HoldTable → FreeList → Store H
new_store heap m holds free = record { heap = heap; holds = holds; stage = AtHold 0; place = m; free = free }

pub opened_state : {H : Type 0} (memory : Ghosts H) (before after : H) (m asked : ℕ) (holds : HoldTable) (free : FreeList)
    → (memory.sound before → m ≡ (memory.meaning before).size) → (memory.sound before → memory.meaning after ≡ opened_cells (memory.meaning before).size) → (memory.sound before → memory.sound after) → holds.contents ≡ replicate 96 Nothing → holds.count ≡ clipped_holds asked → free ≡ list_of_all m
    → memory.sound before → InState memory (new_store after m holds free) (opened (memory.meaning before).size asked)
opened_state memory before after m asked holds free size reset kept contents count is s =
    let few : m ≤ 16384 = rw (size s) (memory.lawful before s).few in
    let st : InState memory (new_store after m holds (list_of_all m)) (opened m asked) = in_state memory (new_store after m holds (list_of_all m)) (opened m asked) (reset s ∙ ap opened_cells (sym (size s))) (kept s) (opened_keeps m asked few) (record {
      count_is = count;
      holds_are = ap (λ xs. λ h. get_or xs h Nothing) contents ∙ fun_ext (λ h. all_nothing 96 h);
      stage_is = refl;
      place_is = refl;
      list = record {
        free_count = sym (length_count 0 m);
        front_is = front_of_all m;
        last_is = last_of_all m;
        last_below = λ q. omega arith;
      };
    }) in
    subst (λ n. InState memory (new_store after m holds free) (opened n asked)) (size s)
    (subst (λ l. InState memory (new_store after m holds l) (opened m asked)) (sym is) st)
