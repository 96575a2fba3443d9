use Rattle.std.proofs.Common.{refl, arith}
use Rattle.archive.proofs.Whole.{pattern_read}
use Rattle.loading.proofs.LinesLeft.{lines_in_lem}
use Rattle.loading.proofs.Planted.{underway_all, underway_more, underway_none}
use Rattle.loading.proofs.settling.settle_lines.Goals as goal

pub loop-place-init : goal.loop-place-init
loop-place-init g c = (λ q. q, λ text pattern q start e suits. record { made = refl; left = lines_in_lem text pattern _ start e })

pub loop-place-preserved : goal.loop-place-preserved
loop-place-preserved g c =
    let given = c.in-Some.ensures in (
      λ q. c.plant.ensures.kept (c.loop-place.invariant.0 q),
      λ text pattern q start e suits.
          underway_more _ _ _ pattern suits _ _ _ _ _ _ _ (pattern_read text pattern e).numbered.in_range given.answer given.place c.from.ensures
          (c.plant.ensures.after (c.loop-place.invariant.0 q)) (c.loop-place.invariant.1 text pattern q start e suits),
    )

pub returns-in_default-clause-after : goal.returns-in_default-clause-after
returns-in_default-clause-after g c = λ text pattern q start e suits. underway_none _ _ _ pattern suits _ _ _ c.in_default.ensures.answer (c.loop-place.invariant.1 text pattern q start e suits)

pub returns-clause-after : goal.returns-clause-after
returns-clause-after g c = λ text pattern q start e suits. underway_all _ _ _ pattern suits _ _ _ (omega (arith, suits.room, c.loop-place-test.false)) (c.loop-place.invariant.1 text pattern q start e suits)
