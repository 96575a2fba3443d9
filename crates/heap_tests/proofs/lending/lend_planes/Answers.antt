use Rattle.std.proofs.Common.{ap}
use Rattle.heap_tests.proofs.Lent.{bits_on, turned_new}
use Rattle.heap_tests.proofs.lending.lend_planes.Goals as goal

-- the exchange of a new heap changed the parts of the two black planes
pub returns : goal.returns
returns c =
    let t = turned_new c.new-heap.result c.exchange.new.self _ c.new-heap.ensures.meaning c.exchange.ensures.parts in
    let m = c.new-heap.ensures.made in
    let b = c.paint.ensures.beyond in
    let r = c.release.ensures in
    record {
      grey = bits_on m.greys.rest b.grey t.1 (ap (λ h. h.memory.grey.now) t.0) (ap (λ x. x.grey.now) r);
      sweep = bits_on m.sweeps.rest b.mark t.1 (ap (λ h. h.memory.mark.now) t.0) (ap (λ x. x.mark.now) r);
      mark = bits_on m.marks.rest b.sweep t.1 (ap (λ h. h.memory.sweep.now) t.0) (ap (λ x. x.sweep.now) r);
    }
