-- The three mistakes lose a held cell: computed.
use Rattle.std.proofs.Common.{refl, inl, lit<}
use Rattle.cells.specs.Calls.{seek_grey}
use Rattle.model.specs.Mistakes.{Loses, MistakesLose, lost_ahead_of_sweeper, lost_below_search, lost_by_copy, lost_by_follow}
use Rattle.model.specs.Reach.{Reached.held, Reached.through}

ahead_of_sweeper : Loses lost_ahead_of_sweeper
unfolding seek_grey
ahead_of_sweeper = (0, held 0 0 (lit< tt, refl), (lit< tt, refl))

by_copy : Loses lost_by_copy
unfolding seek_grey
by_copy = (0, held 0 0 (lit< tt, refl), (lit< tt, refl))

by_follow : Loses lost_by_follow
unfolding seek_grey
by_follow = (0, held 0 0 (lit< tt, refl), (lit< tt, refl))

below_search : Loses lost_below_search
unfolding seek_grey
below_search = (0, through 1 0 (held 0 1 (lit< tt, refl)) (inl refl), (lit< tt, refl))

pub mistakes_lose : MistakesLose
mistakes_lose = record { ahead_of_sweeper = ahead_of_sweeper; by_copy = by_copy; by_follow = by_follow; below_search = below_search }
