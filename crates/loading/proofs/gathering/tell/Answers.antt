use Rattle.std.proofs.Common.{arith}
use Rattle.loading.proofs.Table.{gathered_more}
use Rattle.loading.proofs.gathering.tell.Goals as goal

pub loop-place-preserved : goal.loop-place-preserved
loop-place-preserved g c = λ free sound listed.
    gathered_more _ _ _ _ _ _ _ _ _ _ _ listed (g.H.Heap.lawful _ sound) (c.loop-place.invariant free sound listed)
    (omega (arith, c.loop-place-test.true, c.loop-place.auto.places)) c.try_from.ensures c.unwrap_or.ensures (c.next_free-cell.ensures sound)
