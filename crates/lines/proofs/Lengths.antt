-- How long the lines are, and a cell line in the pieces in which it is written.
use Rattle.std.proofs.Common.{◌≡◌, ℕ, ◌+◌, List, codes, [], ◌∷◌, ◌++◌, length, decimal, refl, ap, append_assoc, arith, length-append}
use Rattle.cells.specs.declared.content.Joint.{Joint}
use Rattle.cells.specs.declared.content.Joint.TheVariants.{Beside, Above}
use Rattle.cells.specs.Record.{letter_of}
use Rattle.lines.specs.declared.cell.PatternCell.{PatternCell}
use Rattle.lines.specs.Text.{cell_fields, content_text, counted_text, joint_text, line_text}

pub counted_length : (words : List ℕ) (n : ℕ) → length (counted_text words n) ≡ length words + length (decimal n) + 1
counted_length words n = simp length-append (omega arith)

-- the text of a joint is its letter
pub joint_letter : (j : Joint) → joint_text j ≡ letter_of j ∷ []
joint_letter Beside = refl
joint_letter Above = refl

-- a cell line is its word, joint, left, right and the line end, with tabs between
pub cell_pieces : (c : PatternCell) → line_text (cell_fields c) ≡ codes "cell\t" ++ (joint_text c.joint ++ ((9 ∷ []) ++ (content_text c.left ++ ((9 ∷ []) ++ (content_text c.right ++ (10 ∷ []))))))
cell_pieces c = simp append_assoc

pub cell_length : (c : PatternCell) → length (line_text (cell_fields c)) ≡ 9 + length (content_text c.left) + length (content_text c.right)
cell_length c = let joint = ap length (joint_letter c.joint) in simp length-append (omega arith)
