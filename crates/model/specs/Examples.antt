-- The worked examples: ten calls on two small stores, at pace 0 to 65,535.
use Rattle.std.specs.Prelude.{ℕ, List, [], ◌∷◌, replicate, Ok, Err, codes}
use Rattle.model.specs.declared.answer.Answer.{Answer}
use Rattle.model.specs.declared.answer.Answer.TheVariants as told
use Rattle.model.specs.declared.fault.StoreFault.TheVariants.{NoCell}
use Rattle.model.specs.Calls.{Call, Call.yarn, Call.drop, Call.take, Call.save, after_all}
use Rattle.model.specs.Save.{buffer_after}
use Rattle.model.specs.State.{State, opened}
use Rattle.model.specs.Take.{Pace, pace_set}

-- the pace at the start
abbrev pub widest : Pace
widest = pace_set 0 65535

-- three cells and two holds; the joints are 98 `b` and 97 `a`
abbrev pub three_cells : State
three_cells = opened 3 2

abbrev pub first_six : List Call
first_six = yarn 0 5 ∷ take 0 98 0 1 widest ∷ take 1 97 0 0 widest ∷ drop 1 ∷ take 1 98 1 1 widest ∷ take 1 98 0 0 widest ∷ []

-- the seventh saves hold 1 into 43 bytes and tables of three entries
abbrev pub seventh : Call
seventh = save 1 (replicate 43 0) (0 ∷ 0 ∷ 0 ∷ []) (0 ∷ 0 ∷ 0 ∷ [])

abbrev pub saved_bytes : List ℕ
saved_bytes = buffer_after (after_all first_six three_cells) 1 (replicate 43 0) (0 ∷ 0 ∷ 0 ∷ []) (0 ∷ 0 ∷ 0 ∷ [])

-- what they answer: cell 0 after 2 units, cell 1 after 3, cell 2 after 6, cell 1 again after 2; 2 cells in 43 bytes
abbrev pub first_told : List Answer
first_told = told.Done (Ok tt) ∷ told.Took (Ok (0, 2)) ∷ told.Took (Ok (1, 3)) ∷ told.Done (Ok tt) ∷ told.Took (Ok (2, 6)) ∷ told.Took (Ok (1, 2)) ∷ []

abbrev pub seventh_told : Answer
seventh_told = told.Saved (Ok (2, 43))

abbrev pub saved_told : List ℕ
saved_told = codes "pattern\t1\t2\ncell\tb\tc1\tc1\ncell\tb\ty5\t-\nend\t2\n"

-- one cell and one hold; the last take comes behind a drop
abbrev pub one_cell : State
one_cell = opened 1 1

abbrev pub last_four : List Call
last_four = take 0 98 0 0 widest ∷ take 0 98 0 0 widest ∷ drop 0 ∷ take 0 98 0 0 widest ∷ []

-- cell 0 after 3 units; no cell, after 9 units; and behind the drop cell 0 after 4 units
abbrev pub last_told : List Answer
last_told = told.Took (Ok (0, 3)) ∷ told.Took (Err (NoCell 9)) ∷ told.Done (Ok tt) ∷ told.Took (Ok (0, 4)) ∷ []
