use Rattle.std.proofs.Common.{◌≡◌, ap, ◌∙◌}
use Rattle.model.specs.Collector.{after_units}
use Rattle.model.specs.Take.{units_for, units_run}
use Rattle.pace.specs.Paces.{pace_of}
use Rattle.store.specs.View.{WellFormed, view}
use Rattle.store.proofs.Accepted.{moved_to, paced_state, paced_units}
use Rattle.store.proofs.Units.{some_by_count}
use Rattle.store.proofs.whole.Store.labour.Goals as goal

pub returns-else-is_empty : goal.returns-else-is_empty
returns-else-is_empty g c =
    let some = c.if-is_empty.ensures in
    let s = c.args.self.now in
    let pace = pace_of c.args.pace in
    let paced : WellFormed g.H.Heap s → c.units-units.result ≡ units_run (view g.H.Heap s) pace = λ a. c.units-units.ensures.paced (some_by_count _ some) ∙ ap (λ k. units_for pace k s.free.count) (c.span-span.ensures a) ∙ paced_units g.H.Heap s pace some in
    record {
      answer = paced;
      after = λ a. moved_to g.H.Heap c.work.new.self _ _ (c.work.ensures a) (ap (λ n. after_units n (view g.H.Heap s)) (paced a) ∙ paced_state g.H.Heap s pace some);
    }
