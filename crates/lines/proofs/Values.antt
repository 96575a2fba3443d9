-- A field is read as a value exactly if it is the text of that value.
use Rattle.std.proofs.Common.{◌≡◌, ℕ, ◌^◌, ◌<◌, Bool, true, false, cond, eqb, leb, List, [], ◌∷◌, length, Some, None, codes, decimal, Option, sym, refl, ap, ◌∙◌, arith, eqb-true, leb-true}
use Rattle.std.specs.Str.{all_ascii_digits, bytes_eq}
use Rattle.std.proofs.lemmas.Option.{none-some, same_Some}
use Rattle.std.proofs.lemmas.Slice.Eq.{bytes_eq-Decides}
use Rattle.std.proofs.lemmas.Bool.Decides.{nat_tests}
use Rattle.text.specs.Cut.{Lacks}
use Rattle.text.specs.Number.{number_in}
use Rattle.text.proofs.Trip.{number_read, number_written, digits_in}
use Rattle.cells.specs.declared.content.Content.{Content}
use Rattle.cells.specs.declared.content.Content.TheVariants.{Nothing, Yarn, Cell}
use Rattle.cells.specs.declared.content.Joint.{Joint}
use Rattle.cells.specs.declared.content.Joint.TheVariants.{Beside, Above}
use Rattle.lines.specs.declared.cell.PatternCell.{PatternCell}
use Rattle.lines.specs.Line.{Fields, header, cell, end}
use Rattle.lines.specs.Text.{cell_fields, content_text, end_fields, joint_text}
use Rattle.lines.specs.Values.{cell_values, content_in, end_count, given, header_numbers, joint_in, lettered}
use Rattle.lines.proofs.Options.{given_some}

-- joints
pub joint_holds : (text : List ℕ) (j : Joint) → joint_in text ≡ Some j → text ≡ joint_text j
joint_holds text j e = first (bytes_eq text (codes "b")) refl e
  where
    second : (t : Bool) → bytes_eq text (codes "a") ≡ t → cond t (Some Above) None ≡ Some j → text ≡ joint_text j
    second true q e = (bytes_eq-Decides text (codes "a")).0 q ∙ ap joint_text (same_Some _ _ e)
    second false q e = absurd (none-some _ e)

    first : (t : Bool) → bytes_eq text (codes "b") ≡ t → cond t (Some Beside) (cond (bytes_eq text (codes "a")) (Some Above) None) ≡ Some j → text ≡ joint_text j
    first true q e = (bytes_eq-Decides text (codes "b")).0 q ∙ ap joint_text (same_Some _ _ e)
    first false q e = second (bytes_eq text (codes "a")) refl e

pub joint_back : (j : Joint) → joint_in (joint_text j) ≡ Some j
joint_back Beside = refl
joint_back Above = refl

-- contents whose numbers have at most five digits
abbrev pub Short : Content → Type 0
Short Nothing = Unit {0}
Short (Yarn y) = y < 100000
Short (Cell k) = k < 100000

pub empty : (xs : List ℕ) → eqb (length xs) 0 ≡ true → xs ≡ []
empty [] e = refl
empty (x ∷ xs) e = absurd (omega (arith, eqb-true (length (x ∷ xs)) 0 e))

module _ (letter : ℕ) (digits : List ℕ) (c : Content) where
  -- what is to show of a letter and its digits
  abbrev Content-is : Type 0
  Content-is = letter ∷ digits ≡ content_text c

  numbered : (b : ℕ) (make : ℕ → Content) → ((n : ℕ) → content_text (make n) ≡ b ∷ decimal n) → (n : ℕ) → number_in digits ≡ Some n → eqb letter b ≡ true → make n ≡ c → Content-is
  numbered b make text n q r e =
      ap (λ l. l ∷ digits) (eqb-true letter b r) ∙ ap (λ ds. b ∷ ds) (number_read digits n q).1 ∙ sym (text n) ∙ ap content_text e

  after_dash : (t : Bool) → eqb (length digits) 0 ≡ t → eqb letter 45 ≡ true → cond t (Some Nothing) None ≡ Some c → Content-is
  after_dash true q r e = ap (λ l. l ∷ digits) (eqb-true letter 45 r) ∙ ap (λ ds. 45 ∷ ds) (empty digits q) ∙ ap content_text (same_Some _ _ e)
  after_dash false q r e = absurd (none-some _ e)

  is_cell : (n : ℕ) → number_in digits ≡ Some n → (t : Bool) → eqb letter 99 ≡ t → cond t (Some (Cell n)) None ≡ Some c → Content-is
  is_cell n q true r e = numbered 99 Cell (λ _. refl) n q r (same_Some _ _ e)
  is_cell n q false r e = absurd (none-some _ e)

  is_yarn_lem : (n : ℕ) → number_in digits ≡ Some n → (t : Bool) → eqb letter 121 ≡ t → cond t (Some (Yarn n)) (cond (eqb letter 99) (Some (Cell n)) None) ≡ Some c → Content-is
  is_yarn_lem n q true r e = numbered 121 Yarn (λ _. refl) n q r (same_Some _ _ e)
  is_yarn_lem n q false r e = is_cell n q (eqb letter 99) refl e

  is_number : (o : Option ℕ) → number_in digits ≡ o → lettered letter o ≡ Some c → Content-is
  is_number None q e = absurd (none-some _ e)
  is_number (Some n) q e = is_yarn_lem n q (eqb letter 121) refl e

  is_dash : (t : Bool) → eqb letter 45 ≡ t → cond t (cond (eqb (length digits) 0) (Some Nothing) None) (lettered letter (number_in digits)) ≡ Some c → Content-is
  is_dash true q e = after_dash (eqb (length digits) 0) refl q e
  is_dash false q e = is_number (number_in digits) refl e

content_holds : (text : List ℕ) (c : Content) → content_in text ≡ Some c → text ≡ content_text c
content_holds [] c e = absurd (none-some _ e)
content_holds (letter ∷ digits) c e = is_dash letter digits c (eqb letter 45) refl e

pub content_back : (c : Content) → Short c → content_in (content_text c) ≡ Some c
content_back Nothing h = refl
content_back (Yarn y) h = ap (lettered 121) (number_written y h)
content_back (Cell k) h = ap (lettered 99) (number_written k h)

-- the values of the three lines
pub header_numbers_lem : (f : Fields) (v n : ℕ) → header_numbers f ≡ Some (v, n) → f ≡ header (decimal v) (decimal n)
header_numbers_lem (cell joint left right) v n e = absurd (none-some _ e)
header_numbers_lem (end count) v n e = absurd (none-some _ e)
header_numbers_lem (header version count) v n e =
    let first = given_some (number_in version) (λ v. given (number_in count) (λ n. Some (v, n))) (v, n) e in
    let second = given_some (number_in count) (λ n. Some (first.0, n)) (v, n) first.2 in
    let same = same_Some _ _ second.2 in
    let a = (number_read version first.0 first.1).1 in
    let b = (number_read count second.0 second.1).1 in
    ap (λ t. header t count) (a ∙ ap (λ p. decimal p.0) same) ∙ ap (header (decimal v)) (b ∙ ap (λ p. decimal p.1) same)

abbrev joined_cell : List ℕ → List ℕ → Joint → Option PatternCell
joined_cell left right j = given (content_in left) (λ l. given (content_in right) (λ r. Some (record { joint = j; left = l; right = r })))

abbrev with_left : List ℕ → Joint → Content → Option PatternCell
with_left right j l = given (content_in right) (λ r. Some (record { joint = j; left = l; right = r }))

pub cell_values_lem : (f : Fields) (c : PatternCell) → cell_values f ≡ Some c → f ≡ cell_fields c
cell_values_lem (header version count) c e = absurd (none-some _ e)
cell_values_lem (end count) c e = absurd (none-some _ e)
cell_values_lem (cell joint left right) c e =
    let j = given_some (joint_in joint) (joined_cell left right) c e in
    let l = given_some (content_in left) (with_left right j.0) c j.2 in
    let r = given_some (content_in right) (λ r. Some (record { joint = j.0; left = l.0; right = r })) c l.2 in
    ap (λ t. cell t left right) (joint_holds joint j.0 j.1)
    ∙ ap (λ t. cell (joint_text j.0) t right) (content_holds left l.0 l.1)
    ∙ ap (λ t. cell (joint_text j.0) (content_text l.0) t) (content_holds right r.0 r.1)
    ∙ ap cell_fields (same_Some _ _ r.2)

pub cell_values_back : (c : PatternCell) → Short c.left → Short c.right → cell_values (cell_fields c) ≡ Some c
cell_values_back c l r =
    let right = content_text c.right in
    ap (λ o. given o (joined_cell (content_text c.left) right)) (joint_back c.joint)
    ∙ ap (λ o. given o (with_left right c.joint)) (content_back c.left l)
    ∙ ap (λ o. given o (λ x. Some (record { joint = c.joint; left = c.left; right = x }))) (content_back c.right r)

pub end_count_lem : (f : Fields) (n : ℕ) → end_count f ≡ Some n → f ≡ end_fields n
end_count_lem (header version count) n e = absurd (none-some _ e)
end_count_lem (cell joint left right) n e = absurd (none-some _ e)
end_count_lem (end count) n e = ap end (number_read count n e).1

-- no value holds a tab or a line end
digits_lack : (b : ℕ) → b < 48 → (ds : List ℕ) → all_ascii_digits ds ≡ true → Lacks b ds
digits_lack b h [] e = tt
digits_lack b h (d ∷ ds) e =
    let here : leb 48 d ≡ true = grind (arith, nat_tests) in
    let more : all_ascii_digits ds ≡ true = grind (arith, nat_tests) in
    (λ same. omega (arith, leb-true 48 d here), digits_lack b h ds more)

pub decimal_lacks : (b n : ℕ) → b < 45 → n < 2 ^ 64 → Lacks b (decimal n)
decimal_lacks b n h small = digits_lack b (omega arith) (decimal n) (digits_in n small)

pub content_lacks : (b : ℕ) (c : Content) → b < 45 → Short c → Lacks b (content_text c)
content_lacks b Nothing h s = (λ e. omega arith, tt)
content_lacks b (Yarn y) h s = (λ e. omega arith, decimal_lacks b y h (omega arith))
content_lacks b (Cell k) h s = (λ e. omega arith, decimal_lacks b k h (omega arith))

pub joint_lacks : (b : ℕ) (j : Joint) → b < 45 → Lacks b (joint_text j)
joint_lacks b Beside h = (λ e. omega arith, tt)
joint_lacks b Above h = (λ e. omega arith, tt)
