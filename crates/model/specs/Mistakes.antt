-- Three well-known mistakes: the same definitions with one change each, and a run in which a held cell is lost.
use Rattle.std.specs.Prelude.{ℕ, [], ◌∷◌}
use Rattle.cells.specs.declared.cell.Side.{Side}
use Rattle.cells.specs.declared.cell.Side.TheVariants.{Left}
use Rattle.cells.specs.Calls.{first_grey}
use Rattle.model.specs.declared.stage.Stage.{Stage}
use Rattle.model.specs.declared.stage.Stage.TheVariants.{AtHold, AtCell, Ended}
use Rattle.model.specs.Calls.{Call.drop, Call.mark, Call.sweep, Call.take, Call.tie, Call.turn, after, after_all}
use Rattle.model.specs.Collector.{mark_at, mark_found, whitened_cells}
use Rattle.model.specs.Hand.{cell_beside, content_at, copy_answer, if_ok}
use Rattle.model.specs.Reach.{IsFree, Reached}
use Rattle.model.specs.State.{State, opened, with_cells, with_hold}
use Rattle.model.specs.Take.{Pace, pace_set}

-- a cell that the holds reach is free
abbrev pub Loses : State → Type 0
Loses s = (c : ℕ) × Reached s c × IsFree s c

-- no unit is run inside a take
abbrev pub still : Pace
still = pace_set 0 0

-- 1. A cell taken ahead of the sweeper keeps a white sweep colour: cell c is white again once it is given.
abbrev pub given_white : State → ℕ → State
given_white s c = with_cells s (whitened_cells s.cells c)

-- one cell, one hold: the cell is taken at the very start of a round, and then swept
abbrev pub before_gift : State
before_gift = after_all (mark ∷ mark ∷ turn ∷ take 0 98 0 0 still ∷ []) (opened 1 1)

abbrev pub lost_ahead_of_sweeper : State
lost_ahead_of_sweeper = after sweep (given_white before_gift 0)

-- 2. Copy, or follow, does not shade.
abbrev pub copy_unshaded : State → ℕ → ℕ → State
copy_unshaded s h g = if_ok (copy_answer s h g) (λ _. with_hold s h (s.hold g)) s

abbrev pub follow_unshaded : State → ℕ → Side → ℕ → State
follow_unshaded s h side g = if_ok (cell_beside s h g) (λ i. with_hold s g (content_at s.cells side i)) s

-- one cell, two holds: hold 0 is visited, the cell moves into it from hold 1, and hold 1 is dropped before its visit
abbrev pub before_copy : State
before_copy = after_all (take 1 98 0 0 still ∷ mark ∷ mark ∷ mark ∷ turn ∷ mark ∷ []) (opened 1 2)

abbrev pub lost_by_copy : State
lost_by_copy = after_all (drop 1 ∷ mark ∷ mark ∷ mark ∷ sweep ∷ turn ∷ sweep ∷ []) (copy_unshaded before_copy 0 1)

-- two cells, two holds: cell 1 in hold 1 has cell 0 as left; hold 0 is visited, cell 0 is followed into it, and the tie
-- from cell 1 is cut before cell 1 is marked
abbrev pub before_follow : State
before_follow = after_all (take 1 98 0 0 still ∷ take 1 98 1 0 still ∷ mark ∷ mark ∷ mark ∷ mark ∷ turn ∷ mark ∷ []) (opened 2 3)

abbrev pub lost_by_follow : State
lost_by_follow = after_all (tie 1 Left 2 ∷ mark ∷ mark ∷ mark ∷ mark ∷ sweep ∷ sweep ∷ turn ∷ sweep ∷ []) (follow_unshaded before_follow 1 Left 0)

-- 3. Marking counts as ended when the search from k finds nothing: there is no second search from 0.
abbrev pub mark_once : State → Stage → State
mark_once s (AtHold r) = mark_at s (AtHold r)
mark_once s (AtCell k) = mark_found s (first_grey s.cells k)
mark_once s Ended = s

abbrev pub mark_short : State → State
mark_short s = mark_once s s.stage

-- two cells, one hold: cell 1 in the hold has cell 0 as left; cell 1 is marked, which makes cell 0 grey, below k = 1
abbrev pub before_end : State
before_end = after_all (take 0 98 0 0 still ∷ take 0 98 0 0 still ∷ mark ∷ mark ∷ turn ∷ mark ∷ mark ∷ []) (opened 2 1)

abbrev pub lost_below_search : State
lost_below_search = after_all (sweep ∷ sweep ∷ turn ∷ sweep ∷ []) (mark_short before_end)

pub record MistakesLose : Type 0 where
  pub ahead_of_sweeper : Loses lost_ahead_of_sweeper
  pub by_copy : Loses lost_by_copy
  pub by_follow : Loses lost_by_follow
  pub below_search : Loses lost_below_search
