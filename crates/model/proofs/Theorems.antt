-- The statements of the crate, put together.
use Rattle.std.proofs.Common.{◌≡◌, true, false, None, refl}
use Rattle.cells.specs.declared.cell.MarkColour.{MarkColour}
use Rattle.cells.specs.declared.cell.MarkColour.TheVariants.{White, Grey, Black}
use Rattle.cells.specs.Calls.{exchange_fault, first_grey}
use Rattle.cells.specs.Record.{is_grey}
use Rattle.cells.proofs.Refused.{write_accepted}
use Rattle.cells.proofs.Seek.{first_none}
use Rattle.model.specs.Calls.{after_all}
use Rattle.model.specs.Collector.{can_turn}
use Rattle.model.specs.History.{deeds, history}
use Rattle.model.specs.Invariant.{Dark, Invariant, IsBlack}
use Rattle.model.specs.Laws.{FreeListInOrder, HeapRefusesNothing, InvariantKept, ReachedIsUsed, UnitsContainTurn}
use Rattle.model.specs.State.{State, opened, size_of}
use Rattle.model.proofs.Bound.{span_has_turn}
use Rattle.model.proofs.Histories.{all_keep, call_keeps, history_run}
use Rattle.model.proofs.Moves.{can_turn_parts}
use Rattle.model.proofs.Opened.{opened_keeps}
use Rattle.model.proofs.Runs.{first_in_first_out, reached_kept}

pub invariant_kept : InvariantKept
invariant_kept = record { of_opened = opened_keeps; by_call = call_keeps; by_calls = λ m r few cs. all_keep cs (opened m r) (opened_keeps m r few) }

pub reached_is_used : ReachedIsUsed
reached_is_used s v i r = let k = reached_kept s v i r in (k.0, k.1)

pub units_contain_turn : UnitsContainTurn
units_contain_turn s v = span_has_turn s v

pub free_list_in_order : FreeListInOrder
free_list_in_order cs s v = first_in_first_out s (after_all cs s) (history (deeds cs s)) v (history_run cs s v)

-- a colour that is black wherever it is dark is not grey
not_grey : (m : MarkColour) → (Dark m → IsBlack m) → is_grey m ≡ false
not_grey White b = refl
not_grey Grey b = absurd (b tt)
not_grey Black b = refl

no_grey : (s : State) → Invariant s → can_turn s ≡ true → exchange_fault s.cells ≡ None
no_grey s v e =
    let z : first_grey s.cells 0 ≡ None = first_none s.cells 0 (λ j _ _. not_grey (s.cells.mark j) (v.ended_black (can_turn_parts s e).0 j)) in
    rw z refl

pub heap_refuses_nothing : HeapRefusesNothing
heap_refuses_nothing s v = record {
  new_cell_lem = λ i a b q. write_accepted (size_of s) i (s.hold a) (s.hold b) (v.free_list.only i q).0 (v.hold_range a) (v.hold_range b);
  tie_left = λ h c g q. write_accepted (size_of s) c (s.hold g) (s.cells.right c) (v.held_kept h c q).0 (v.hold_range g) (v.right_range c);
  tie_right = λ h c g q. write_accepted (size_of s) c (s.cells.left c) (s.hold g) (v.held_kept h c q).0 (v.left_range c) (v.hold_range g);
  exchange = no_grey s v;
}
