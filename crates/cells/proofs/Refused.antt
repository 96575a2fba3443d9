-- Refusals: which call is refused, and what is known if it is not.
use Rattle.std.proofs.Common.{◌≡◌, ℕ, ◌<◌, ◌≤◌, ltb, leb, Some, None, Ok, Err, Option, Result, sym, refl, ap, ◌∙◌, inl, inr, arith}
use Rattle.std.proofs.lemmas.Bool.{cases_Bool, cases_lt, cond-true, cond-false, le-leb, lt-ltb, le-ltb, leb-true, ltb-true}
use Rattle.cells.specs.declared.content.Content.{Content}
use Rattle.cells.specs.declared.content.Content.TheVariants.{Nothing, Yarn, Cell}
use Rattle.cells.specs.declared.cell.LinkRecord.{LinkRecord}
use Rattle.cells.specs.declared.cell.CellRecord.{CellRecord}
use Rattle.cells.specs.declared.fault.HeapFault.{HeapFault}
use Rattle.cells.specs.declared.fault.HeapFault.TheVariants.{YarnRange, CellRange}
use Rattle.cells.specs.Cells.{Cells}
use Rattle.cells.specs.Calls.{InRange, write_cells, write_unless}
use Rattle.cells.specs.Fault.{answer, content_fault, grey_fault, index_fault, or_else, write_fault}

-- a call was accepted with this refusal in question; a call was refused with x
abbrev pub Accepted : Option HeapFault → Type 0
Accepted f = ◌≡◌ {A = Result (Unit {0}) HeapFault} (Ok tt) (answer f tt)

abbrev pub Declined : HeapFault → Option HeapFault → Type 0
Declined x f = ◌≡◌ {A = Result (Unit {0}) HeapFault} (Err x) (answer f tt)

pub accepted_none : (f : Option HeapFault) → Accepted f → f ≡ None
accepted_none None e = refl
accepted_none (Some x) e = let o : ◌≡◌ {A = ℕ} 0 1 = cc in absurd (omega arith)

pub declined_some : (x : HeapFault) (f : Option HeapFault) → Declined x f → f ≡ Some x
declined_some x None e = let o : ◌≡◌ {A = ℕ} 0 1 = cc in absurd (omega arith)
declined_some x (Some y) e = cc

pub index_in : (m i : ℕ) → i < m → index_fault m i ≡ None
index_in m i h = cond-true (ltb i m) None (Some CellRange) (lt-ltb i m h)

pub index_out : (m i : ℕ) → m ≤ i → index_fault m i ≡ Some CellRange
index_out m i h = cond-false (ltb i m) None (Some CellRange) (le-ltb i m h)

pub content_in_lem : (m : ℕ) (x : Content) → content_fault m x ≡ None → InRange m x
content_in_lem m Nothing e = tt
content_in_lem m (Yarn y) e = elim (cases_Bool (leb y 4095)) [
  | inl t ↦ leb-true y 4095 t
  | inr f ↦ let z : ◌≡◌ {A = Option HeapFault} (Some YarnRange) None = sym (cond-false (leb y 4095) None (Some YarnRange) f) ∙ e in let o : ◌≡◌ {A = ℕ} 0 1 = cc in omega arith
]
content_in_lem m (Cell i) e = elim (cases_Bool (ltb i m)) [
  | inl t ↦ ltb-true i m t
  | inr f ↦ let z : ◌≡◌ {A = Option HeapFault} (Some CellRange) None = sym (cond-false (ltb i m) None (Some CellRange) f) ∙ e in let o : ◌≡◌ {A = ℕ} 0 1 = cc in omega arith
]

-- a content in range is not refused, nor a write of two of them
pub content_accepted : (m : ℕ) (x : Content) → InRange m x → content_fault m x ≡ None
content_accepted m Nothing h = refl
content_accepted m (Yarn y) h = cond-true (leb y 4095) None (Some YarnRange) (le-leb y 4095 h)
content_accepted m (Cell i) h = index_in m i h

pub write_accepted : (m i : ℕ) (l r : Content) → i < m → InRange m l → InRange m r → write_fault m i l r ≡ None
write_accepted m i l r h a b = rw (index_in m i h, content_accepted m l a, content_accepted m r b) refl

pub index_below : (m i : ℕ) → index_fault m i ≡ None → i < m
index_below m i e = content_in_lem m (Cell i) e

pub accepted_below : (m i : ℕ) → Accepted (index_fault m i) → i < m
accepted_below m i ok = index_below m i (accepted_none (index_fault m i) ok)

-- a write that is not refused is not refused for any of its three reasons
pub three_none : (a b c : Option HeapFault) → or_else a (or_else b c) ≡ None → (a ≡ None) × (b ≡ None) × (c ≡ None)
three_none None None None e = (refl, refl, refl)
three_none (Some x) b c e = let o : ◌≡◌ {A = ℕ} 0 1 = cc in absurd (omega arith)
three_none None (Some x) c e = let o : ◌≡◌ {A = ℕ} 0 1 = cc in absurd (omega arith)
three_none None None (Some x) e = let o : ◌≡◌ {A = ℕ} 0 1 = cc in absurd (omega arith)

pub write_none : (m i : ℕ) (l r : Content) → write_fault m i l r ≡ None → (i < m) × InRange m l × InRange m r
write_none m i l r e =
    let p = three_none (index_fault m i) (content_fault m l) (content_fault m r) e in
    (index_below m i p.0, content_in_lem m l p.1, content_in_lem m r p.2)

pub write_below : (m i : ℕ) (l r : Content) → Accepted (write_fault m i l r) → i < m
write_below m i l r ok = (write_none m i l r (accepted_none (write_fault m i l r) ok)).0

-- a refused write leaves the cells
pub write_declined : (c : Cells) (i : ℕ) (links : LinkRecord) (x : HeapFault) → Declined x (write_fault c.size i links.left links.right) → c ≡ write_cells c i links
write_declined c i links x e = sym (ap (λ f. write_unless f c i links) (declined_some x (write_fault c.size i links.left links.right) e))

-- a read that is not refused, and one that is
pub read_done : (m i : ℕ) (x y : CellRecord) → ◌≡◌ {A = Result CellRecord HeapFault} (Ok x) (answer (index_fault m i) y) → (i < m) × (x ≡ y)
read_done m i x y e = elim (cases_lt i m) [
  | inl h ↦ let z : ◌≡◌ {A = Result CellRecord HeapFault} (Ok x) (Ok y) = e ∙ ap (λ f. answer f y) (index_in m i h) in (h, cc)
  | inr h ↦ let z : ◌≡◌ {A = Result CellRecord HeapFault} (Ok x) (Err CellRange) = e ∙ ap (λ f. answer f y) (index_out m i h) in let o : ◌≡◌ {A = ℕ} 0 1 = cc in absurd (omega arith)
]

pub read_refused : (m i : ℕ) (x : HeapFault) (y : CellRecord) → ◌≡◌ {A = Result CellRecord HeapFault} (Err x) (answer (index_fault m i) y) → m ≤ i
read_refused m i x y e = elim (cases_lt i m) [
  | inl h ↦ let z : ◌≡◌ {A = Result CellRecord HeapFault} (Err x) (Ok y) = e ∙ ap (λ f. answer f y) (index_in m i h) in let o : ◌≡◌ {A = ℕ} 0 1 = cc in absurd (omega arith)
  | inr h ↦ h
]

-- an exchange that is not refused found no grey cell
pub none_found : (first : Option ℕ) → grey_fault first ≡ None → first ≡ None
none_found None e = refl
none_found (Some i) e = let o : ◌≡◌ {A = ℕ} 0 1 = cc in absurd (omega arith)
