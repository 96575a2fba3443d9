-- What holds of a history, whatever calls it came from. The statements speak of reach, stray, free, put back and turn only.
use Rattle.std.specs.Prelude.{◌≡◌, ℕ, ◌+◌, ◌<◌, Bool, true, false, cond, ◌||◌, ◌↔◌, List, [], ◌∷◌, ◌++◌, Some, None, Err, Option, Result, ◌==◌, ◌≢◌}
use Rattle.cells.specs.declared.cell.Tag.TheVariants.{Used}
use Rattle.cells.specs.Cells.{changed_at}
use Rattle.archive.specs.Pattern.{among}
use Rattle.model.specs.declared.answer.Answer.{Answer}
use Rattle.model.specs.declared.answer.Answer.TheVariants as told
use Rattle.model.specs.declared.fault.StoreFault.{StoreFault}
use Rattle.model.specs.declared.fault.StoreFault.TheVariants.{NoHold, NoJoint, NoCell}
use Rattle.model.specs.Calls.{Call, after_all}
use Rattle.model.specs.History.{Deed, Event, Event.marks, Event.sweeps, Event.turns, Event.gives, Event.moves, Moment, at, deeds, history}
use Rattle.model.specs.Reach.{Full, Reached, Stray}
use Rattle.model.specs.State.{State, size_of}

-- Free and used are told by the history: used once given, free again once put back.
abbrev pub swept_told : Option (ℕ × Bool) → (ℕ → Bool) → ℕ → Bool
swept_told None used = used
swept_told (Some swept) used = cond swept.1 (changed_at used swept.0 false) used

abbrev pub used_after : Event → (ℕ → Bool) → ℕ → Bool
used_after marks used = used
used_after (sweeps answer) used = swept_told answer used
used_after turns used = used
used_after (gives cells) used = λ i. among i cells || used i
used_after moves used = used

-- No reached cell is free: at each moment, and at the end, the holds reach only cells that are used by then.
abbrev pub ReachesUsed : (ℕ → Bool) → State → Type 0
ReachesUsed used s = (i : ℕ) → Reached s i → used i ≡ true

abbrev pub NeverFree : (ℕ → Bool) → List Moment → State → Type 0
NeverFree used [] end = ReachesUsed used end
NeverFree used (m ∷ ms) end = ReachesUsed used m.before × NeverFree (used_after m.event used) ms end

-- and the tags say what the history tells
abbrev pub TagsTell : (ℕ → Bool) → State → Type 0
TagsTell used s = (i : ℕ) → i < size_of s → (s.cells.tag i ≡ Used) ↔ (used i ≡ true)

abbrev pub TagsAgree : (ℕ → Bool) → List Moment → State → Type 0
TagsAgree used [] end = TagsTell used end
TagsAgree used (m ∷ ms) end = TagsTell used m.before × TagsAgree (used_after m.event used) ms end

-- Every stray is put back exactly once.

-- how often a sweep puts cell x back: once or not at all
abbrev pub swept_back : ℕ → Option (ℕ × Bool) → ℕ
swept_back x None = 0
swept_back x (Some swept) = cond swept.1 (cond (swept.0 == x) 1 0) 0

abbrev pub backs : ℕ → Event → ℕ
backs x marks = 0
backs x (sweeps answer) = swept_back x answer
backs x turns = 0
backs x (gives cells) = 0
backs x moves = 0

-- how often cell x is put back in some moments
abbrev pub times_back : ℕ → List Moment → ℕ
times_back x [] = 0
times_back x (m ∷ ms) = backs x m.event + times_back x ms

abbrev pub NoTurn : Event → Type 0
NoTurn marks = Unit {0}
NoTurn (sweeps answer) = Unit {0}
NoTurn turns = ⊥
NoTurn (gives cells) = Unit {0}
NoTurn moves = Unit {0}

abbrev pub NoTurns : List Moment → Type 0
NoTurns [] = Unit {0}
NoTurns (m ∷ ms) = NoTurn m.event × NoTurns ms

-- is there a turn among some moments?
abbrev pub is_turn : Event → Bool
is_turn marks = false
is_turn (sweeps answer) = false
is_turn turns = true
is_turn (gives cells) = false
is_turn moves = false

abbrev pub has_turn : List Moment → Bool
has_turn [] = false
has_turn (m ∷ ms) = is_turn m.event || has_turn ms

-- a cell that is stray as a turn begins is put back exactly once between that turn and the second turn after it
abbrev pub PutBackOnce : List Moment → Type 0
PutBackOnce ms =
    (zs bs cs ds : List Moment) (p q r : State) → ms ≡ zs ++ (at p turns ∷ (bs ++ (at q turns ∷ (cs ++ (at r turns ∷ ds)))))
    → NoTurns bs → NoTurns cs
    → (x : ℕ) → Stray p x → times_back x bs + times_back x cs ≡ 1

-- No cell exactly when full.

-- a take was not refused for its arguments, and it says that there is no cell
abbrev pub Judged : Result (ℕ × ℕ) StoreFault → Type 0
Judged r = (r ≢ Err NoHold) × (r ≢ Err NoJoint)

abbrev pub SaysNoCell : Result (ℕ × ℕ) StoreFault → Type 0
SaysNoCell r = (units : ℕ) × (r ≡ Err (NoCell units))

-- a take that meets no other refusal says "no cell" exactly if the holds reached every cell before it
abbrev pub FullOnly : Answer → State → Type 0
FullOnly (told.Done r) s = Unit {0}
FullOnly (told.Took r) s = Judged r → SaysNoCell r ↔ Full s
FullOnly (told.Marked m) s = Unit {0}
FullOnly (told.Swept o) s = Unit {0}
FullOnly (told.Loaded r) s = Unit {0}
FullOnly (told.Saved r) s = Unit {0}

abbrev pub AllFullOnly : List Deed → Type 0
AllFullOnly [] = Unit {0}
AllFullOnly (d ∷ ds) = FullOnly d.told d.before × AllFullOnly ds

-- The free list is first in, first out: what was given, and then what is free at the end, is what was free at the
-- start, and then what was put back.
abbrev pub swept_cells : Option (ℕ × Bool) → List ℕ
swept_cells None = []
swept_cells (Some swept) = cond swept.1 (swept.0 ∷ []) []

abbrev pub given_by : Event → List ℕ
given_by marks = []
given_by (sweeps answer) = []
given_by turns = []
given_by (gives cells) = cells
given_by moves = []

abbrev pub back_by : Event → List ℕ
back_by marks = []
back_by (sweeps answer) = swept_cells answer
back_by turns = []
back_by (gives cells) = []
back_by moves = []

abbrev pub given_in : List Moment → List ℕ
given_in [] = []
given_in (m ∷ ms) = given_by m.event ++ given_in ms

abbrev pub back_in : List Moment → List ℕ
back_in [] = []
back_in (m ∷ ms) = back_by m.event ++ back_in ms

abbrev pub FirstInFirstOut : State → List Moment → State → Type 0
FirstInFirstOut s ms end = given_in ms ++ end.free ≡ s.free ++ back_in ms

-- What holds of a list of calls on a new store: the history that the definitions give for them is such that ..
pub record RunLaws (calls : List Call) (start : State) : Type 0 where
  -- no hold ever reaches a free cell, and the tags say what the history tells,
  pub never_free : NeverFree (λ _. false) (history (deeds calls start)) (after_all calls start)
  pub tags_agree : TagsAgree (λ _. false) (history (deeds calls start)) (after_all calls start)
  -- every stray is put back exactly once,
  pub put_back_once : PutBackOnce (history (deeds calls start))
  -- a take says "no cell" exactly when the store is full,
  pub full_only : AllFullOnly (deeds calls start)
  -- and the free list comes out in the order in which it was put back.
  pub first_out : FirstInFirstOut start (history (deeds calls start)) (after_all calls start)
