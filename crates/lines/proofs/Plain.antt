-- The lines that are written have no tab in a field and no line end before their own.
use Rattle.std.proofs.Common.{◌≡◌, ℕ, ◌<◌, Bool, false, ◌||◌, eqb, List, [], ◌∷◌, codes, decimal, sym, refl, arith}
use Rattle.std.proofs.lemmas.Bool.{eqb-false}
use Rattle.std.proofs.lemmas.Fmt.{decimal_digit}
use Rattle.std.proofs.ByRecursion.{All-append}
use Rattle.std.proofs.lemmas.Bool.Decides.{nat_tests}
use Rattle.text.specs.Cut.{Lacks}
use Rattle.lines.specs.declared.cell.PatternCell.{PatternCell}
use Rattle.lines.specs.Line.{Tabless, body, tabbed}
use Rattle.lines.specs.Text.{cell_fields, content_text, end_fields, header_fields, joint_text}
use Rattle.lines.proofs.Values.{Short, content_lacks, decimal_lacks, joint_lacks}

-- a test that computes on the words of the lines
abbrev has : ℕ → List ℕ → Bool
has b [] = false
has b (x ∷ xs) = eqb b x || has b xs

lacks_by_test : (b : ℕ) (xs : List ℕ) → has b xs ≡ false → Lacks b xs
lacks_by_test b [] e = tt
lacks_by_test b (x ∷ xs) e =
    let here : eqb b x ≡ false = grind (arith, nat_tests) in
    let more : has b xs ≡ false = grind (arith, nat_tests) in
    (λ same. eqb-false b x here (sym same), lacks_by_test b xs more)

tabbed_lacks : (first more : List ℕ) → Lacks 10 first → Lacks 10 more → Lacks 10 (tabbed first more)
tabbed_lacks first more a b = All-append (λ x. x ≡ 10 → ⊥) first (9 ∷ more) a (λ e. omega arith, b)

pub header_plain : (n : ℕ) → n < 100000 → Tabless (header_fields n)
header_plain n h = (lacks_by_test 9 (codes "1") refl, decimal_lacks 9 n (omega arith) (omega arith))

pub header_ends : (n : ℕ) → n < 100000 → Lacks 10 (body (header_fields n))
header_ends n h =
    tabbed_lacks (codes "pattern") (tabbed (codes "1") (decimal n)) (lacks_by_test 10 (codes "pattern") refl)
    (tabbed_lacks (codes "1") (decimal n) (lacks_by_test 10 (codes "1") refl) (decimal_lacks 10 n (omega arith) (omega arith)))

pub cell_plain : (c : PatternCell) → Short c.left → Short c.right → Tabless (cell_fields c)
cell_plain c l r = (joint_lacks 9 c.joint (omega arith), content_lacks 9 c.left (omega arith) l, content_lacks 9 c.right (omega arith) r)

pub cell_ends : (c : PatternCell) → Short c.left → Short c.right → Lacks 10 (body (cell_fields c))
cell_ends c l r =
    let left = content_text c.left in
    let right = content_text c.right in
    tabbed_lacks (codes "cell") (tabbed (joint_text c.joint) (tabbed left right)) (lacks_by_test 10 (codes "cell") refl)
    (tabbed_lacks (joint_text c.joint) (tabbed left right) (joint_lacks 10 c.joint (omega arith))
    (tabbed_lacks left right (content_lacks 10 c.left (omega arith) l) (content_lacks 10 c.right (omega arith) r)))

pub end_ends : (n : ℕ) → n < 100000 → Lacks 10 (body (end_fields n))
end_ends n h = tabbed_lacks (codes "end") (decimal n) (lacks_by_test 10 (codes "end") refl) (decimal_lacks 10 n (omega arith) (omega arith))

-- the version that is written is the number 1
pub version_is : decimal 1 ≡ codes "1"
version_is = decimal_digit 1 (omega arith)

pub end_plain : (n : ℕ) → n < 100000 → Tabless (end_fields n)
end_plain n h = decimal_lacks 9 n (omega arith) (omega arith)
