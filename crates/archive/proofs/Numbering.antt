-- The numbering rule, content by content and line by line as the reader follows it, says what `Numbered` says.
use Rattle.std.proofs.Common.{◌≡◌, ℕ, zero, suc, ◌+◌, ◌<◌, ◌≤◌, max, Bool, true, false, cond, ◌||◌, eqb, leb, List, [], ◌∷◌, ◌++◌, length, take, drop, Some, None, sym, refl, ap, ◌∙◌, subst, arith, eqb-true, le-leb, leb-true}
use Rattle.std.proofs.lemmas.Bool.{eqb-false}
use Rattle.std.proofs.lemmas.Option.{same_Some}
use Rattle.cells.specs.declared.content.Content.{Content}
use Rattle.cells.specs.declared.content.Content.TheVariants.{Nothing, Yarn, Cell}
use Rattle.lines.specs.declared.cell.PatternCell.{PatternCell}
use Rattle.archive.specs.Pattern.{Pattern, among, contents, greatest, named}
use Rattle.archive.specs.Reading.{goes_on}

-- The numbers that are named, one by one.

-- none is more than one above the greatest before it, where g is the greatest so far
abbrev pub Follows : ℕ → List ℕ → Type 0
Follows g [] = Unit {0}
Follows g (k ∷ ks) = (k ≤ g + 1) × Follows (max g k) ks

-- the same, said of every way to part the list at one of its numbers
abbrev pub Each-follows : ℕ → List ℕ → Type 0
Each-follows g xs = (before : List ℕ) (k : ℕ) (after : List ℕ) → xs ≡ before ++ (k ∷ after) → k ≤ max g (greatest before) + 1

pub each_follows : (g : ℕ) (xs : List ℕ) → Follows g xs → Each-follows g xs
each_follows g [] f [] k after e = cc
each_follows g [] f (b ∷ before) k after e = cc
each_follows g (x ∷ xs) f [] k after e = let same : x ≡ k = cc in omega (arith, f.0)
each_follows g (x ∷ xs) f (b ∷ before) k after e =
    let same : x ≡ b = cc in
    omega (arith, each_follows (max g x) xs f.1 before k after cc)

pub follows_each : (g : ℕ) (xs : List ℕ) → Each-follows g xs → Follows g xs
follows_each g [] f = tt
follows_each g (x ∷ xs) f = (
  omega (arith, f [] x xs refl),
  follows_each (max g x) xs (λ before k after e. omega (arith, f (x ∷ before) k after (ap (λ l. x ∷ l) e))),
)

pub follows_front : (g : ℕ) (xs ys : List ℕ) → Follows g (xs ++ ys) → Follows g xs
follows_front g [] ys f = tt
follows_front g (x ∷ xs) ys f = (f.0, follows_front (max g x) xs ys f.1)

-- so no number is left out: each one above g, up to the greatest, is among them
pub none_left_out : (g : ℕ) (xs : List ℕ) → Follows g xs → (i : ℕ) → g < i → i ≤ max g (greatest xs) → among i xs ≡ true
none_left_out g [] f i low high = absurd (omega arith)
none_left_out g (x ∷ xs) f i low high = by (none_left_out (max g x) xs f.1 i) (eqb i x) refl
  where
    by : (max g x < i → i ≤ max (max g x) (greatest xs) → among i xs ≡ true) → (t : Bool) → eqb i x ≡ t → (t || among i xs) ≡ true
    by more true q = refl
    by more false q = let apart = eqb-false i x q in more (omega (arith, f.0)) (omega arith)

pub among_most : (i : ℕ) (xs : List ℕ) → among i xs ≡ true → i ≤ greatest xs
among_most i [] e = cc
among_most i (x ∷ xs) e = by (among_most i xs) (eqb i x) refl e
  where
    by : (among i xs ≡ true → i ≤ greatest xs) → (t : Bool) → eqb i x ≡ t → (t || among i xs) ≡ true → i ≤ max x (greatest xs)
    by more true q e = omega (arith, eqb-true i x q)
    by more false q e = omega (arith, more e)

-- The contents, one by one.

-- the greatest number named behind a content
pub behind_content : (g : ℕ) (x : Content) (h : ℕ) → goes_on g x ≡ Some h → h ≡ max g (greatest (named (x ∷ [])))
behind_content g Nothing h e = omega (arith, same_Some _ _ e)
behind_content g (Yarn y) h e = omega (arith, same_Some _ _ e)
behind_content g (Cell k) h e = by (leb k (g + 1)) e
  where
    by : (t : Bool) → cond t (Some (max g k)) None ≡ Some h → h ≡ max g (max k 0)
    by true e = omega (arith, same_Some _ _ e)
    by false e = cc

-- a content may stand behind g, and the others behind it
pub follows_content : (g : ℕ) (x : Content) (h : ℕ) (xs : List Content) → goes_on g x ≡ Some h → Follows h (named xs) → Follows g (named (x ∷ xs))
follows_content g Nothing h xs e f = subst (λ k. Follows k (named xs)) (sym (same_Some _ _ e)) f
follows_content g (Yarn y) h xs e f = subst (λ k. Follows k (named xs)) (sym (same_Some _ _ e)) f
follows_content g (Cell k) h xs e f = by (leb k (g + 1)) refl e
  where
    by : (t : Bool) → leb k (g + 1) ≡ t → cond t (Some (max g k)) None ≡ Some h → (k ≤ g + 1) × Follows (max g k) (named xs)
    by true q e = (leb-true k (g + 1) q, subst (λ j. Follows j (named xs)) (sym (same_Some _ _ e)) f)
    by false q e = cc

pub content_follows : (g : ℕ) (x : Content) (xs : List Content) → Follows g (named (x ∷ xs)) → (h : ℕ) × (goes_on g x ≡ Some h) × Follows h (named xs)
content_follows g Nothing xs f = (g, refl, f)
content_follows g (Yarn y) xs f = (g, refl, f)
content_follows g (Cell k) xs f = (max g k, ap (λ t. cond t (Some (max g k)) None) (le-leb k (g + 1) f.0), f.1)

pub named_append : (xs ys : List Content) → named (xs ++ ys) ≡ named xs ++ named ys
named_append [] ys = refl
named_append (Nothing ∷ xs) ys = named_append xs ys
named_append (Yarn y ∷ xs) ys = named_append xs ys
named_append (Cell k ∷ xs) ys = ap (λ l. k ∷ l) (named_append xs ys)

pub greatest_append : (xs ys : List ℕ) → greatest (xs ++ ys) ≡ max (greatest xs) (greatest ys)
greatest_append [] ys = omega arith
greatest_append (x ∷ xs) ys = omega (arith, greatest_append xs ys)

-- the contents of the first cells come first
contents_front : (i : ℕ) (p : Pattern) → contents p ≡ contents (take i p) ++ contents (drop i p)
contents_front zero p = refl
contents_front (suc i) [] = refl
contents_front (suc i) (c ∷ cs) = ap (λ xs. c.left ∷ c.right ∷ xs) (contents_front i cs)

-- The lines, one by one.

-- the greatest number named behind the two contents of a cell
abbrev pub behind_cell : ℕ → PatternCell → ℕ
behind_cell g c = max g (greatest (named (c.left ∷ c.right ∷ [])))

-- the line of cell i stands only if i is at most the greatest number named before it
abbrev pub Met : ℕ → ℕ → Pattern → Type 0
Met i g [] = Unit {0}
Met i g (c ∷ cs) = (i ≤ g) × Met (i + 1) (behind_cell g c) cs

-- the same, said of each line
abbrev pub Each-met : ℕ → ℕ → Pattern → Type 0
Each-met i g p = (j : ℕ) → j < length p → i + j ≤ max g (greatest (named (contents (take j p))))

greatest_two : (c : PatternCell) (xs : List Content) → greatest (named (c.left ∷ c.right ∷ xs)) ≡ max (greatest (named (c.left ∷ c.right ∷ []))) (greatest (named xs))
greatest_two c xs = ap greatest (named_append (c.left ∷ c.right ∷ []) xs) ∙ greatest_append (named (c.left ∷ c.right ∷ [])) (named xs)

pub each_met : (i g : ℕ) (p : Pattern) → Met i g p → Each-met i g p
each_met i g [] m j h = absurd (omega arith)
each_met i g (c ∷ cs) m zero h = omega (arith, m.0)
each_met i g (c ∷ cs) m (suc j) h =
    let more = each_met (i + 1) (behind_cell g c) cs m.1 j (omega arith) in
    omega (arith, more, greatest_two c (contents (take j cs)))

pub met_each : (i g : ℕ) (p : Pattern) → Each-met i g p → Met i g p
met_each i g [] m = tt
met_each i g (c ∷ cs) m = (
  omega (arith, m 0 (omega arith)),
  met_each (i + 1) (behind_cell g c) cs (λ j h. omega (arith, m (suc j) (omega arith), greatest_two c (contents (take j cs)))),
)

-- Under the rule of the numbers, a cell is at most the greatest named before its line exactly if it is cell 0 or
-- was named there.
module _ (p : Pattern) (f : Follows 0 (named (contents p))) where
  front_follows : (i : ℕ) → Follows 0 (named (contents (take i p)))
  front_follows i =
      let split = ap named (contents_front i p) ∙ named_append (contents (take i p)) (contents (drop i p)) in
      follows_front 0 (named (contents (take i p))) (named (contents (drop i p))) (subst (Follows 0) split f)

  pub met_named : Met 0 0 p → (i : ℕ) → 1 ≤ i → i < length p → among i (named (contents (take i p))) ≡ true
  met_named m i low h = none_left_out 0 (named (contents (take i p))) (front_follows i) i (omega arith) (omega (arith, each_met 0 0 p m i h))

  pub named_met : ((i : ℕ) → 1 ≤ i → i < length p → among i (named (contents (take i p))) ≡ true) → Met 0 0 p
  named_met m = met_each 0 0 p each
    where
      each : Each-met 0 0 p
      each zero h = omega arith
      each (suc j) h = omega (arith, among_most (suc j) (named (contents (take (suc j) p))) (m (suc j) (omega arith) h))
