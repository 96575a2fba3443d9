-- A line is read exactly if it is the text of its fields.
use Rattle.std.proofs.Common.{◌≡◌, ℕ, Bool, true, false, cond, ◌↔◌, List, is_some, Some, None, codes, Option, sym, refl, ap, ◌∙◌, subst}
use Rattle.std.specs.Str.{bytes_eq}
use Rattle.std.proofs.lemmas.Option.{none-some, same_Some}
use Rattle.std.proofs.lemmas.Slice.Eq.{bytes_eq-Decides}
use Rattle.text.specs.Cut.{Lacks, cut_at}
use Rattle.text.proofs.Cuts.{cut_holds, cut_found, cut_missing, missing_lacks}
use Rattle.lines.specs.Line.{Fields, header, cell, end, IsLine, Tabless, after_joint, after_word, as_header, body, cell_in, end_in, exactly_two, header_in, line_in, tabbed, two_in, with_joint}

-- just one field
missing : (xs : List ℕ) (o : Option (List ℕ × List ℕ)) → cut_at 9 xs ≡ o → is_some o ≡ false → Lacks 9 xs
missing xs None q e = missing_lacks 9 xs q
missing xs (Some parts) q e = cc

one_back : (xs : List ℕ) → Lacks 9 xs → is_some (cut_at 9 xs) ≡ false
one_back xs free = ap is_some (cut_missing 9 xs free)

-- just two fields
record Two (text first second : List ℕ) : Type 0 where
  text_is : text ≡ tabbed first second
  first_plain : Lacks 9 first
  second_plain : Lacks 9 second

two_holds : (text first second : List ℕ) → two_in text ≡ Some (first, second) → Two text first second
two_holds text first second e = by (cut_at 9 text) refl e
  where
    last : (parts : List ℕ × List ℕ) (t : Bool) → is_some (cut_at 9 parts.1) ≡ t → cut_at 9 text ≡ Some parts → cond t None (Some parts) ≡ Some (first, second) → Two text first second
    last parts true q f e = absurd (none-some _ e)
    last parts false q f e =
        let same = same_Some _ _ e in
        let cut = cut_holds 9 text first second (f ∙ e) in
        let plain = missing parts.1 (cut_at 9 parts.1) refl q in
        record { text_is = cut.0; first_plain = cut.1; second_plain = subst (λ r. Lacks 9 r.1) same plain }

    by : (o : Option (List ℕ × List ℕ)) → cut_at 9 text ≡ o → exactly_two o ≡ Some (first, second) → Two text first second
    by None f e = absurd (none-some _ e)
    by (Some parts) f e = last parts (is_some (cut_at 9 parts.1)) refl f e

two_back : (first second : List ℕ) → Lacks 9 first → Lacks 9 second → two_in (tabbed first second) ≡ Some (first, second)
two_back first second a b = ap exactly_two (cut_found 9 first second a) ∙ ap (λ t. cond t None (Some (first, second))) (one_back second b)

-- the fields behind each of the three words
Behind : List ℕ → Option Fields → List ℕ → Type 0
Behind word o text = (f : Fields) → o ≡ Some f → (tabbed word text ≡ body f) × Tabless f

header_holds : (text : List ℕ) → Behind (codes "pattern") (header_in text) text
unfolding Behind
header_holds text f e = by (two_in text) refl e
  where
    by : (o : Option (List ℕ × List ℕ)) → two_in text ≡ o → as_header o ≡ Some f → (tabbed (codes "pattern") text ≡ body f) × Tabless f
    by None q e = absurd (none-some _ e)
    by (Some parts) q e =
        let two = two_holds text parts.0 parts.1 q in
        subst (λ g. (tabbed (codes "pattern") text ≡ body g) × Tabless g) (same_Some _ _ e) (ap (tabbed (codes "pattern")) two.text_is, (two.first_plain, two.second_plain))

cell_holds : (text : List ℕ) → Behind (codes "cell") (cell_in text) text
unfolding Behind
cell_holds text f e = by (cut_at 9 text) refl e
  where
    with_joint_lem : (parts : List ℕ × List ℕ) (o : Option (List ℕ × List ℕ)) → cut_at 9 text ≡ Some parts → two_in parts.1 ≡ o → with_joint parts.0 o ≡ Some f → (tabbed (codes "cell") text ≡ body f) × Tabless f
    with_joint_lem parts None p q e = absurd (none-some _ e)
    with_joint_lem parts (Some both) p q e =
        let cut = cut_holds 9 text parts.0 parts.1 p in
        let two = two_holds parts.1 both.0 both.1 q in
        subst (λ g. (tabbed (codes "cell") text ≡ body g) × Tabless g) (same_Some _ _ e)
        (ap (tabbed (codes "cell")) (cut.0 ∙ ap (tabbed parts.0) two.text_is), (cut.1, two.first_plain, two.second_plain))

    by : (o : Option (List ℕ × List ℕ)) → cut_at 9 text ≡ o → after_joint o ≡ Some f → (tabbed (codes "cell") text ≡ body f) × Tabless f
    by None q e = absurd (none-some _ e)
    by (Some parts) q e = with_joint_lem parts (two_in parts.1) q refl e

end_holds : (text : List ℕ) → Behind (codes "end") (end_in text) text
unfolding Behind
end_holds text f e = by (is_some (cut_at 9 text)) refl e
  where
    by : (t : Bool) → is_some (cut_at 9 text) ≡ t → cond t None (Some (end text)) ≡ Some f → (tabbed (codes "end") text ≡ body f) × Tabless f
    by true q e = absurd (none-some _ e)
    by false q e =
        let plain = missing text (cut_at 9 text) refl q in
        subst (λ g. (tabbed (codes "end") text ≡ body g) × Tabless g) (same_Some _ _ e) (refl, plain)

-- the three words, in the order of the tests
word_holds : (word text : List ℕ) (f : Fields) → after_word (Some (word, text)) ≡ Some f → (tabbed word text ≡ body f) × Tabless f
unfolding Behind
word_holds word text f e = first (bytes_eq word (codes "pattern")) refl e
  where
    at : (name : List ℕ) → bytes_eq word name ≡ true → (tabbed name text ≡ body f) × Tabless f → (tabbed word text ≡ body f) × Tabless f
    at name q h = subst (λ w. (tabbed w text ≡ body f) × Tabless f) (sym ((bytes_eq-Decides word name).0 q)) h

    third : (t : Bool) → bytes_eq word (codes "end") ≡ t → cond t (end_in text) None ≡ Some f → (tabbed word text ≡ body f) × Tabless f
    third true q e = at (codes "end") q (end_holds text f e)
    third false q e = absurd (none-some _ e)

    second : (t : Bool) → bytes_eq word (codes "cell") ≡ t → cond t (cell_in text) (cond (bytes_eq word (codes "end")) (end_in text) None) ≡ Some f → (tabbed word text ≡ body f) × Tabless f
    second true q e = at (codes "cell") q (cell_holds text f e)
    second false q e = third (bytes_eq word (codes "end")) refl e

    first : (t : Bool) → bytes_eq word (codes "pattern") ≡ t → cond t (header_in text) (cond (bytes_eq word (codes "cell")) (cell_in text) (cond (bytes_eq word (codes "end")) (end_in text) None)) ≡ Some f → (tabbed word text ≡ body f) × Tabless f
    first true q e = at (codes "pattern") q (header_holds text f e)
    first false q e = second (bytes_eq word (codes "cell")) refl e

pub line_holds : (text : List ℕ) (f : Fields) → line_in text ≡ Some f → IsLine text f
line_holds text f e = by (cut_at 9 text) refl e
  where
    by : (o : Option (List ℕ × List ℕ)) → cut_at 9 text ≡ o → after_word o ≡ Some f → IsLine text f
    by None q e = absurd (none-some _ e)
    by (Some parts) q e =
        let cut = cut_holds 9 text parts.0 parts.1 q in
        let word = word_holds parts.0 parts.1 f e in
        (cut.0 ∙ word.0, word.1)

pub line_back : (f : Fields) → Tabless f → line_in (body f) ≡ Some f
line_back (header version count) plain = ap as_header (two_back version count plain.0 plain.1)
line_back (cell joint left right) plain =
    ap after_joint (cut_found 9 joint (tabbed left right) plain.0) ∙ ap (with_joint joint) (two_back left right plain.1 plain.2)
line_back (end count) plain = ap (λ t. cond t None (Some (end count))) (one_back count plain)

pub line_exactly : (text : List ℕ) (f : Fields) → (line_in text ≡ Some f) ↔ IsLine text f
line_exactly text f = (line_holds text f, λ h. ap line_in h.0 ∙ line_back f h.1)
