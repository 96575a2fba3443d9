-- Bytes written one after another into a buffer are their concatenation, written at once.
use Rattle.std.proofs.Common.{◌≡◌, ℕ, ◌+◌, ◌≤◌, List, ◌++◌, length, take, drop, sym, ap, ◌∙◌, append_assoc, arith, length-append}
use Rattle.std.proofs.lemmas.List.{drop-drop, take_at, drop_at, length-take, length-drop}
use Rattle.std.proofs.lemmas.Bool.Decides.{nat_tests}
use Rattle.text.specs.Buffer.{written}
use Rattle.text.specs.Writer.{PutsInRoom, Puts}
use Rattle.text.specs.declared.buffer.Writer.{Writer}

module _ (buffer : List ℕ) (at : ℕ) (xs ys : List ℕ) where
  written_more : at + length xs + length ys ≤ length buffer → written (written buffer at xs) (at + length xs) ys ≡ written buffer at (xs ++ ys)
  written_more h =
      let front : length (take at buffer ++ xs) ≡ at + length xs = simp (length-append, length-take) (omega arith) in
      let split : written buffer at xs ≡ (take at buffer ++ xs) ++ drop (at + length xs) buffer = sym (append_assoc (take at buffer) xs _) in
      let low : take (at + length xs) (written buffer at xs) ≡ take at buffer ++ xs =
      ap (take (at + length xs)) split ∙ take_at (take at buffer ++ xs) _ (at + length xs) front in
      let rest : drop (at + length xs) (written buffer at xs) ≡ drop (at + length xs) buffer =
      ap (drop (at + length xs)) split ∙ drop_at (take at buffer ++ xs) _ (at + length xs) front in
      let past : drop (at + length xs + length ys) (written buffer at xs) ≡ drop (at + length xs + length ys) buffer =
      sym (drop-drop (length ys) (at + length xs) (written buffer at xs)) ∙ ap (drop (length ys)) rest ∙ drop-drop (length ys) (at + length xs) buffer in
      let end : at + length xs + length ys ≡ at + length (xs ++ ys) = simp length-append (omega arith) in
      ap (λ f. f ++ (ys ++ drop (at + length xs + length ys) (written buffer at xs))) low
      ∙ ap (λ d. (take at buffer ++ xs) ++ (ys ++ d)) past
      ∙ append_assoc (take at buffer) xs _
      ∙ ap (λ l. take at buffer ++ l) (sym (append_assoc xs ys _))
      ∙ ap (λ k. take at buffer ++ ((xs ++ ys) ++ drop k buffer)) end

-- b is the buffer with xs written, and c is b with ys written where xs end
pub written_also : {b c : List ℕ} (buffer : List ℕ) (at end : ℕ) (xs ys : List ℕ) → b ≡ written buffer at xs → c ≡ written b end ys → end ≡ at + length xs → at + length xs + length ys ≤ length buffer → c ≡ written buffer at (xs ++ ys)
written_also buffer at end xs ys e f k h =
    f ∙ ap (λ l. written l end ys) e ∙ ap (λ n. written (written buffer at xs) n ys) k ∙ written_more buffer at xs ys h

-- what a writer wrote, or had no room for, it wrote where there is room
pub puts_in_room : {w w' : Writer} {xs : List ℕ} → Puts w xs w' → PutsInRoom w xs w'
puts_in_room p = record {
  same = p.same;
  bytes = λ room. grind (arith, nat_tests, p.bytes);
  at = λ room. grind (arith, nat_tests, p.at);
}

length_written : (buffer : List ℕ) (at : ℕ) (xs : List ℕ) → at + length xs ≤ length buffer → length (written buffer at xs) ≡ length buffer
length_written buffer at xs h = simp (length-append, length-take, length-drop) (omega arith)

-- a text and a further text behind it are one text
pub in_room_also : {a b c : Writer} {xs ys : List ℕ} → PutsInRoom a xs b → PutsInRoom b ys c → PutsInRoom a (xs ++ ys) c
in_room_also {a} {b} {c} {xs} {ys} p q =
    let long = length-append xs ys in
    let first : a.at + length (xs ++ ys) ≤ length a.buffer.now → a.at + length xs ≤ length a.buffer.now = λ room. omega arith in
    let second : a.at + length (xs ++ ys) ≤ length a.buffer.now → b.at + length ys ≤ length b.buffer.now = λ room.
    let same = ap length (p.bytes (first room)) ∙ length_written a.buffer.now a.at xs (first room) in
    omega (arith, same, p.at (first room)) in
    record {
      same = q.same ∙ p.same;
      bytes = λ room. written_also a.buffer.now a.at b.at xs ys (p.bytes (first room)) (q.bytes (second room)) (p.at (first room)) (omega arith);
      at = λ room. omega (arith, q.at (second room), p.at (first room));
    }

-- the same where the first text was written by itself
pub puts_also : {a b c : Writer} {xs ys : List ℕ} → Puts a xs b → PutsInRoom b ys c → PutsInRoom a (xs ++ ys) c
puts_also p q = in_room_also (puts_in_room p) q
