-- The moments of each call are steps that lead from the state before it to the state it leaves.
use Rattle.std.proofs.Common.{◌≡◌, ℕ, zero, suc, ◌*◌, ◌<◌, ◌≤◌, Bool, true, false, cond, eqb, leb, ◌⊎◌, ◌↔◌, List, [], ◌∷◌, ◌++◌, length, get_or, Ok, Err, Result, sym, refl, ap, ◌∙◌, inl, inr, arith}
use lib.ListN as list
use Rattle.std.proofs.lemmas.List.{length-take-le, take-append-drop}
use Rattle.std.proofs.lemmas.Bool.{leb-true, ltb-true}
use Rattle.std.specs.List.{AllByRecursion}
use Rattle.archive.specs.Pattern.{Pattern, contents}
use Rattle.archive.specs.Reading.{and_then, pattern_in, unless}
use Rattle.archive.proofs.Outcomes.{and_then_ok, ok_same, unless_ok}
use Rattle.archive.proofs.Whole.{pattern_read}
use Rattle.cells.specs.declared.content.Content.{Content}
use Rattle.cells.specs.declared.content.Content.TheVariants.{Nothing, Yarn, Cell}
use Rattle.cells.specs.declared.content.Joint.{Joint}
use Rattle.cells.specs.declared.cell.Side.{Side}
use Rattle.cells.specs.declared.cell.Side.TheVariants.{Left, Right}
use Rattle.cells.specs.Calls.{InRange}
use Rattle.numbering.specs.Same.{no_line}
use Rattle.model.specs.declared.fault.LoadFault.{LoadFault}
use Rattle.model.specs.declared.fault.LoadFault.TheVariants.{OfStore}
use Rattle.model.specs.declared.fault.StoreFault.{StoreFault}
use Rattle.model.specs.declared.fault.StoreFault.TheVariants.{NoHold, NoJoint, YarnRange, FewCells, ShortTable}
use Rattle.model.specs.Calls.{Call, Call.yarn, Call.drop, Call.copy, Call.follow, Call.tie, Call.take, Call.load, Call.save, Call.mark, Call.sweep, Call.turn, after, after_all, answer}
use Rattle.model.specs.Collector.{after_mark, after_turn, after_unit, after_units, can_turn, mark_and_sweep, span, turned}
use Rattle.model.specs.FreeList.{none_free}
use Rattle.model.specs.Hand.{cell_beside, content_at, copy_answer, drop_answer, held_cell, if_ok, is_hold, move_into, tie_to, yarn_answer}
use Rattle.model.specs.History.{Event, Event.gives, Event.moves, Event.turns, accepted_moments, at, deeds, gift_moments, history, hunt_moments, moments, take_moments, turn_moments, unit_moments, units_moments, worked_moments}
use Rattle.model.specs.Invariant.{Invariant}
use Rattle.model.specs.Load.{load_into, load_pattern, text_pattern}
use Rattle.model.specs.Reach.{Full, Holds}
use Rattle.model.specs.Runs.{AllFullOnly, FullOnly, Judged, RunLaws, SaysNoCell, TagsTell}
use Rattle.model.specs.State.{State, opened, size_of, with_hold}
use Rattle.model.specs.Take.{Pace, front_answer, hunt_for, joint_of, take_front, take_joint, units_for, units_run, worked}
use Rattle.model.proofs.Basics.{not_both_tags}
use Rattle.model.proofs.Bound.{exactly_full}
use Rattle.model.proofs.Moves.{can_turn_parts, unit_keeps}
use Rattle.model.proofs.Opened.{opened_keeps}
use Rattle.model.proofs.Reached.{unit_reach}
use Rattle.model.proofs.Runs.{Run, Run.stop, Run.go, first_in_first_out, never_free, put_back_once, run_keeps, run_then, tags_agree}
use Rattle.model.proofs.Steps.{Step, Step.marked, Step.swept, Step.turned_round, Step.set, Step.moved, Step.tied, Step.took, Step.loaded}
use Rattle.model.proofs.Touched.{Touched, Touched.by_hold, Touched.by_name}

-- A call of the hand or a load: one step where it is accepted.
accepted_run : {X E : Type 0} (r : Result X E) (s : State) (event : X → Event) (new : X → State) → ((x : X) → r ≡ Ok x → Step s (event x) (new x)) → Run s (accepted_moments r s event) (if_ok r new s)
accepted_run (Ok x) s event new step = go (step x refl) (stop (new x))
accepted_run (Err e) s event new step = stop s

cell_is : (x : Content) (c : ℕ) → held_cell x ≡ Ok c → x ≡ Cell c
cell_is Nothing c e = absurd (grind arith)
cell_is (Yarn y) c e = absurd (grind arith)
cell_is (Cell d) c e = let z : d ≡ c = cc in ap Cell z

hold_in : (s : State) (h : ℕ) → is_hold s h ≡ true → h < s.hold_count
hold_in s h e = ltb-true h s.hold_count e

-- the cell in hold h, beside hold g
record Beside (s : State) (h g c : ℕ) : Type 0 where
  holds : Holds s h c
  other : g < s.hold_count

beside : (s : State) (h g c : ℕ) → cell_beside s h g ≡ Ok c → Beside s h g c
beside s h g c e =
    let p = unless_ok (is_hold s h) NoHold (unless (is_hold s g) NoHold (held_cell (s.hold h))) c e in
    let q = unless_ok (is_hold s g) NoHold (held_cell (s.hold h)) c p.1 in
    record { holds = (hold_in s h p.0, cell_is (s.hold h) c q.1); other = hold_in s g q.0 }

yarn_run : (s : State) (h y : ℕ) → Run s (moments (yarn h y) s) (after (yarn h y) s)
yarn_run s h y = accepted_run (yarn_answer s h y) s (λ _. moves) (λ _. with_hold s h (Yarn y)) (λ x e.
    let p = unless_ok (is_hold s h) NoHold (unless (leb y 4095) YarnRange (Ok tt)) x e in
    let q = unless_ok (leb y 4095) YarnRange (Ok tt) x p.1 in
    set s h (Yarn y) (leb-true y 4095 q.0) (λ c z. grind arith))

drop_run : (s : State) (h : ℕ) → Run s (moments (drop h) s) (after (drop h) s)
drop_run s h = accepted_run (drop_answer s h) s (λ _. moves) (λ _. with_hold s h Nothing) (λ x e. set s h Nothing tt (λ c z. grind arith))

copy_run : (s : State) (h g : ℕ) → Invariant s → Run s (moments (copy h g) s) (after (copy h g) s)
copy_run s h g v = accepted_run (copy_answer s h g) s (λ _. moves) (λ _. move_into s h (s.hold g)) (λ x e.
    let p = unless_ok (is_hold s h) NoHold (unless (is_hold s g) NoHold (Ok tt)) x e in
    let q = unless_ok (is_hold s g) NoHold (Ok tt) x p.1 in
    moved s h (s.hold g) (v.hold_range g) (λ c z. by_hold g c (hold_in s g q.0, z)))

pub side_range : (s : State) → Invariant s → (side : Side) (i : ℕ) → InRange (size_of s) (content_at s.cells side i)
side_range s v Left i = v.left_range i
side_range s v Right i = v.right_range i

pub side_known : (s : State) (side : Side) (i : ℕ) → Touched s i → (c : ℕ) → content_at s.cells side i ≡ Cell c → Touched s c
side_known s Left i t c e = by_name i c t (inl e)
side_known s Right i t c e = by_name i c t (inr e)

follow_run : (s : State) (h : ℕ) (side : Side) (g : ℕ) → Invariant s → Run s (moments (follow h side g) s) (after (follow h side g) s)
follow_run s h side g v = accepted_run (cell_beside s h g) s (λ _. moves) (λ i. move_into s g (content_at s.cells side i)) (λ i e.
    moved s g (content_at s.cells side i) (side_range s v side i) (side_known s side i (by_hold h i (beside s h g i e).holds)))

tie_run : (s : State) (h : ℕ) (side : Side) (g : ℕ) → Invariant s → Run s (moments (tie h side g) s) (after (tie h side g) s)
tie_run s h side g v = accepted_run (cell_beside s h g) s (λ _. moves) (λ i. tie_to s side i (s.hold g)) (λ i e.
    let b = beside s h g i e in
    tied s side i (s.hold g) (v.held_kept h i b.holds).1 (v.hold_range g) (λ c z. by_hold g c (b.other, z)))

-- Units.

turn_run : (s : State) → Run s (turn_moments s) (after_turn s)
turn_run s = pick (can_turn s) refl
  where
    pick : (b : Bool) → can_turn s ≡ b → Run s (cond b (at s turns ∷ []) []) (cond b (turned s) s)
    pick true e = let q = can_turn_parts s e in go (turned_round s q.0 q.1) (stop (turned s))
    pick false e = stop s

unit_run : (s : State) → Run s (unit_moments s) (after_unit s)
unit_run s = go (marked s) (go (swept (after_mark s)) (turn_run (mark_and_sweep s)))

units_run_lem : (n : ℕ) (s : State) → Run s (units_moments n s) (after_units n s)
units_run_lem zero s = stop s
units_run_lem (suc n) s = run_then s (after_unit s) (after_units n (after_unit s)) (unit_moments s) (units_moments n (after_unit s)) (unit_run s) (units_run_lem n (after_unit s))

hunt_run : (n : ℕ) (s : State) → Run s (hunt_moments n s) (hunt_for n s)
hunt_run zero s = stop s
hunt_run (suc n) s = pick (none_free s.free) (hunt_run n (after_unit s))
  where
    pick : (b : Bool) → Run (after_unit s) (hunt_moments n (after_unit s)) (hunt_for n (after_unit s)) → Run s (cond b (unit_moments s ++ hunt_moments n (after_unit s)) []) (cond b (hunt_for n (after_unit s)) s)
    pick true r = run_then s (after_unit s) (hunt_for n (after_unit s)) (unit_moments s) (hunt_moments n (after_unit s)) (unit_run s) r
    pick false r = stop s

worked_run : (s : State) (pace : Pace) → Run s (worked_moments s pace) (worked s pace)
worked_run s pace = pick (none_free s.free)
  where
    pick : (b : Bool) → Run s (cond b (hunt_moments (3 * span s) s) (units_moments (units_for pace (span s) (length s.free)) s)) (cond b (hunt_for (3 * span s) s) (after_units (units_for pace (span s) (length s.free)) s))
    pick true = hunt_run (3 * span s) s
    pick false = units_run_lem (units_for pace (span s) (length s.free)) s

-- units change no number of holds
units_count : (n : ℕ) (s : State) → Invariant s → (after_units n s).hold_count ≡ s.hold_count
units_count zero s v = refl
units_count (suc n) s v = units_count n (after_unit s) (unit_keeps s v) ∙ (unit_reach s v).count_is

hunt_count : (n : ℕ) (s : State) → Invariant s → (hunt_for n s).hold_count ≡ s.hold_count
hunt_count zero s v = refl
hunt_count (suc n) s v = pick (none_free s.free) (hunt_count n (after_unit s) (unit_keeps s v) ∙ (unit_reach s v).count_is)
  where
    pick : (b : Bool) → (hunt_for n (after_unit s)).hold_count ≡ s.hold_count → (cond b (hunt_for n (after_unit s)) s).hold_count ≡ s.hold_count
    pick true e = e
    pick false e = refl

pub worked_count : (s : State) (pace : Pace) → Invariant s → (worked s pace).hold_count ≡ s.hold_count
worked_count s pace v = pick (none_free s.free)
  where
    pick : (b : Bool) → (cond b (hunt_for (3 * span s) s) (after_units (units_for pace (span s) (length s.free)) s)).hold_count ≡ s.hold_count
    pick true = hunt_count (3 * span s) s v
    pick false = units_count (units_for pace (span s) (length s.free)) s v

-- Take.

gift_run : (t : State) (h : ℕ) (joint : Joint) (a b : ℕ) → a < t.hold_count → b < t.hold_count → Run t (gift_moments t t.free) (take_front t t.free h joint a b)
gift_run t h joint a b la lb = pick t.free refl
  where
    pick : (xs : List ℕ) → t.free ≡ xs → Run t (gift_moments t xs) (take_front t xs h joint a b)
    pick [] e = stop t
    pick (i ∷ rest) e = go (took t h i rest joint a b e la lb) (stop _)

record ThreeHolds (s : State) (h a b : ℕ) : Type 0 where
  left : a < s.hold_count
  right : b < s.hold_count

three_holds : (s : State) (h byte a b : ℕ) (joint : Joint) → take_joint s h byte a b ≡ Ok joint → ThreeHolds s h a b
three_holds s h byte a b joint e =
    let p = unless_ok (is_hold s h) NoHold _ joint e in
    let q = unless_ok (is_hold s a) NoHold _ joint p.1 in
    let r = unless_ok (is_hold s b) NoHold _ joint q.1 in
    record { left = hold_in s a q.0; right = hold_in s b r.0 }

take_run : (s : State) (h byte a b : ℕ) (pace : Pace) → Invariant s → Run s (moments (take h byte a b pace) s) (after (take h byte a b pace) s)
take_run s h byte a b pace v = pick (take_joint s h byte a b) refl
  where
    pick : (r : Result Joint StoreFault) → take_joint s h byte a b ≡ r → Run s (take_moments r s pace) (if_ok r (λ joint. take_front (worked s pace) (worked s pace).free h joint a b) s)
    pick (Ok joint) e =
        let t = three_holds s h byte a b joint e in
        let n = worked_count s pace v in
        run_then s (worked s pace) (take_front (worked s pace) (worked s pace).free h joint a b) (worked_moments s pace) (gift_moments (worked s pace) (worked s pace).free) (worked_run s pace) (gift_run (worked s pace) h joint a b (rw n t.left) (rw n t.right))
    pick (Err fault) e = stop s

-- Load.

contents_range : (n : ℕ) (p : Pattern) → AllByRecursion (InRange n) (contents p) → (k : ℕ) → InRange n (get_or p k no_line).left × InRange n (get_or p k no_line).right
contents_range n [] r k = (tt, tt)
contents_range n (c ∷ cs) r zero = (r.0, r.1.0)
contents_range n (c ∷ cs) r (suc k) = contents_range n cs r.1.1 k

text_ok : (r : Result Pattern _) (p : Pattern) → text_pattern r ≡ Ok p → r ≡ Ok p
text_ok (Ok q) p e = let z : q ≡ p = cc in ap Ok z
text_ok (Err f) p e = absurd (grind arith)

load_step : (s : State) (h : ℕ) (text places : List ℕ) (p : Pattern) → load_pattern s h text places ≡ Ok p → Step s (gives (list.take (length p) s.free)) (load_into s h (list.take (length p) s.free) (list.drop (length p) s.free) p)
load_step s h text places p e =
    let a = unless_ok (is_hold s h) (OfStore NoHold) _ p e in
    let b = and_then_ok (text_pattern (pattern_in text)) _ p a.1 in
    let c = unless_ok (leb (length b.0) (length places)) (OfStore ShortTable) _ p b.2 in
    let d = unless_ok (leb (length b.0) (length s.free)) (OfStore FewCells) (Ok b.0) p c.1 in
    let same : b.0 ≡ p = ok_same d.1 in
    let w = pattern_read text p (text_ok (pattern_in text) p (b.1 ∙ ap Ok same)) in
    let few : length p ≤ length s.free = rw same at (leb-true (length b.0) (length s.free) d.0) in
    let n : length (list.take (length p) s.free) ≡ length p = length-take-le (length p) s.free few in
    loaded s h (list.take (length p) s.free) (list.drop (length p) s.free) p (sym (take-append-drop (length p) s.free)) (let z = w.numbered.some in omega arith) (sym n) (λ k. (contents_range (length p) p w.numbered.in_range k).0) (λ k. (contents_range (length p) p w.numbered.in_range k).1)

load_run : (s : State) (h : ℕ) (text places : List ℕ) → Run s (moments (load h text places) s) (after (load h text places) s)
load_run s h text places = pick (load_pattern s h text places) refl
  where
    pick : (r : Result Pattern LoadFault) → load_pattern s h text places ≡ r → Run s (accepted_moments (and_then r (λ p. Ok (length p))) s (λ n. gives (list.take n s.free))) (if_ok r (λ p. load_into s h (list.take (length p) s.free) (list.drop (length p) s.free) p) s)
    pick (Ok p) e = go (load_step s h text places p e) (stop _)
    pick (Err fault) e = stop s

-- Every call.
pub call_run : (c : Call) (s : State) → Invariant s → Run s (moments c s) (after c s)
call_run (yarn h y) s v = yarn_run s h y
call_run (drop h) s v = drop_run s h
call_run (copy h g) s v = copy_run s h g v
call_run (follow h side g) s v = follow_run s h side g v
call_run (tie h side g) s v = tie_run s h side g v
call_run (take h byte a b pace) s v = take_run s h byte a b pace v
call_run (load h text places) s v = load_run s h text places
call_run (save h buffer numbers order) s v = stop s
call_run mark s v = go (marked s) (stop (after_mark s))
call_run sweep s v = go (swept s) (stop _)
call_run turn s v = turn_run s

pub call_keeps : (c : Call) (s : State) → Invariant s → Invariant (after c s)
call_keeps c s v = run_keeps s (after c s) (moments c s) v (call_run c s v)

pub all_keep : (cs : List Call) (s : State) → Invariant s → Invariant (after_all cs s)
all_keep [] s v = v
all_keep (c ∷ cs) s v = all_keep cs (after c s) (call_keeps c s v)

-- A list of calls.
pub history_run : (cs : List Call) (s : State) → Invariant s → Run s (history (deeds cs s)) (after_all cs s)
history_run [] s v = stop s
history_run (c ∷ cs) s v = run_then s (after c s) (after_all cs (after c s)) (moments c s) (history (deeds cs (after c s))) (call_run c s v) (history_run cs (after c s) (call_keeps c s v))

-- "No cell" is told exactly when no cell is free after the units.
front_says : (xs : List ℕ) (units : ℕ) → SaysNoCell (front_answer xs units) ↔ (none_free xs ≡ true)
front_says [] units = (λ _. refl, λ _. (units, refl))
front_says (x ∷ xs) units = (λ q. absurd (let z = q.1 in grind arith), λ e. absurd (grind arith))

-- before its units a take meets only 3 and 6
unless_err : (b : Bool) (r : Result Joint StoreFault) (fault : StoreFault) → ((f : StoreFault) → r ≡ Err f → (f ≡ NoHold) ⊎ (f ≡ NoJoint)) → unless b NoHold r ≡ Err fault → (fault ≡ NoHold) ⊎ (fault ≡ NoJoint)
unless_err true r fault more e = more fault e
unless_err false r fault more e = let z : NoHold ≡ fault = cc in inl (sym z)

joint_err : (byte : ℕ) (fault : StoreFault) → joint_of byte ≡ Err fault → (fault ≡ NoHold) ⊎ (fault ≡ NoJoint)
joint_err byte fault e = pick (eqb byte 98) (eqb byte 97) e
  where
    pick : (a b : Bool) → ◌≡◌ {A = Result Joint StoreFault} (cond a (Ok Joint.Beside) (cond b (Ok Joint.Above) (Err NoJoint))) (Err fault) → (fault ≡ NoHold) ⊎ (fault ≡ NoJoint)
    pick true b z = absurd (grind arith)
    pick false true z = absurd (grind arith)
    pick false false z = let y : NoJoint ≡ fault = cc in inr (sym y)

joint_refused : (s : State) (h byte a b : ℕ) (fault : StoreFault) → take_joint s h byte a b ≡ Err fault → (fault ≡ NoHold) ⊎ (fault ≡ NoJoint)
joint_refused s h byte a b fault e = unless_err (is_hold s h) _ fault (λ f z. unless_err (is_hold s a) _ f (λ g y. unless_err (is_hold s b) (joint_of byte) g (joint_err byte) y) z) e

take_full : (s : State) (h byte a b : ℕ) (pace : Pace) → Invariant s → FullOnly (answer (take h byte a b pace) s) s
take_full s h byte a b pace v = pick (take_joint s h byte a b) refl
  where
    pick : (r : Result Joint StoreFault) → take_joint s h byte a b ≡ r → Judged (and_then r (λ _. front_answer (worked s pace).free (units_run s pace))) → SaysNoCell (and_then r (λ _. front_answer (worked s pace).free (units_run s pace))) ↔ Full s
    pick (Ok joint) e ok =
        let f = front_says (worked s pace).free (units_run s pace) in
        let x = exactly_full s pace v in
        (λ q. x.0 (f.0 q), λ q. f.1 (x.1 q))
    pick (Err fault) e ok = absurd (elim (joint_refused s h byte a b fault e) [ inl z ↦ ok.0 (ap Err z) | inr z ↦ ok.1 (ap Err z) ])

call_full : (c : Call) (s : State) → Invariant s → FullOnly (answer c s) s
call_full (yarn h y) s v = tt
call_full (drop h) s v = tt
call_full (copy h g) s v = tt
call_full (follow h side g) s v = tt
call_full (tie h side g) s v = tt
call_full (take h byte a b pace) s v = take_full s h byte a b pace v
call_full (load h text places) s v = tt
call_full (save h buffer numbers order) s v = tt
call_full mark s v = tt
call_full sweep s v = tt
call_full turn s v = tt

all_full : (cs : List Call) (s : State) → Invariant s → AllFullOnly (deeds cs s)
all_full [] s v = tt
all_full (c ∷ cs) s v = (call_full c s v, all_full cs (after c s) (call_keeps c s v))

-- The laws of every list of calls on a new store.
pub run_laws : (m r : ℕ) → m ≤ 16384 → (cs : List Call) → RunLaws cs (opened m r)
run_laws m r few cs =
    let s = opened m r in
    let v = opened_keeps m r few in
    let run = history_run cs s v in
    record {
      never_free = never_free s (after_all cs s) (history (deeds cs s)) (λ _. false) v none run;
      tags_agree = tags_agree s (after_all cs s) (history (deeds cs s)) (λ _. false) v none run;
      put_back_once = put_back_once s (after_all cs s) (history (deeds cs s)) v run;
      full_only = all_full cs s v;
      first_out = first_in_first_out s (after_all cs s) (history (deeds cs s)) v run;
    }
  where
    none : TagsTell (λ _. false) (opened m r)
    none i l = (λ e. absurd (not_both_tags refl e), λ e. absurd (grind arith))
