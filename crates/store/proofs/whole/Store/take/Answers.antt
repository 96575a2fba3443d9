use Rattle.pace.specs.Paces.{pace_of}
use Rattle.store.proofs.Accepted.{take_answered, take_done}
use Rattle.store.proofs.whole.Store.take.Goals as goal

pub returns : goal.returns
returns g c = record {
  answer = λ a. take_answered g.H.Heap c.args.self.now c.labour-units.new.self a c.args.hold c.args.joint c.args.left c.args.right c.in_ok-joint.joint (pace_of c.args.pace) c.in_ok-joint.ensures (c.labour-units.ensures.after a) c.labour-units.result c.grant.result (c.labour-units.ensures.answer a) c.grant.ensures.answer;
  after = λ a. take_done g.H.Heap c.args.self.now c.labour-units.new.self a c.args.hold c.args.joint c.args.left c.args.right c.in_ok-joint.joint (pace_of c.args.pace) c.in_ok-joint.ensures (c.labour-units.ensures.after a) c.grant.new.self c.grant.ensures.after;
}
