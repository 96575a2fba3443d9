-- The records beyond the size stay: for callers, what one call after another leaves, and what making leaves.
use Rattle.std.proofs.Common.{◌≡◌, List, length, drop, sym, ap, ◌∙◌, MutBor}
use Rattle.cells.specs.declared.cell.CellRecord.{CellRecord}
use Rattle.cells.specs.Front.{size_for}
use Rattle.cells.specs.Record.{new_cell}
use Rattle.cells.proofs.Memory.{fill_beyond, fill_length, size_in}
use Rattle.records.specs.declared.heap.RecordsHeap.{RecordsHeap}
use Rattle.records.specs.Records.{MadeIn, SameBeyond}

pub same_on : (a b c : RecordsHeap) → SameBeyond a b → SameBeyond b c → SameBeyond a c
same_on a b c p q = record {
  long = q.long ∙ p.long;
  beyond = ap (λ n. drop (size_for n) c.cells.now) (sym p.long) ∙ q.beyond ∙ ap (λ n. drop (size_for n) b.cells.now) p.long ∙ p.beyond;
  lender = q.lender ∙ p.lender;
}

pub made_long : (memory : MutBor (List CellRecord)) (h : RecordsHeap) → MadeIn memory h → length h.cells.now ≡ length memory.now
made_long memory h m = ap length m.records ∙ fill_length new_cell memory.now (size_for (length memory.now)) (size_in memory.now)

pub made_then : (memory : MutBor (List CellRecord)) (h t : RecordsHeap) → MadeIn memory h → SameBeyond h t → drop (size_for (length memory.now)) t.cells.now ≡ drop (size_for (length memory.now)) memory.now
made_then memory h t m p =
    let n = size_for (length memory.now) in
    ap (λ k. drop (size_for k) t.cells.now) (sym (made_long memory h m)) ∙ p.beyond ∙ ap (λ k. drop (size_for k) h.cells.now) (made_long memory h m)
    ∙ ap (drop n) m.records ∙ fill_beyond new_cell memory.now n
