-- The lent memory of a planes heap that was made, exchanged and painted.
use Rattle.std.proofs.Common.{◌≡◌, ℕ, List, length, None, refl, ap, ◌∙◌}
use Rattle.cells.specs.Calls.{exchange_fault}
use Rattle.cells.specs.Cells.{new_cells}
use Rattle.cells.specs.Fault.{grey_fault, unless_fault}
use Rattle.cells.proofs.Seek.{first_none}
use Rattle.planes.specs.declared.heap.PlanesHeap.{PlanesHeap}
use Rattle.planes.specs.Bits.{SameBits, bit_at}
use Rattle.planes.specs.Whole.{cells_of_planes, size_of_planes, swapped_planes}
use Rattle.planes.proofs.Entire.{swapped_size}

-- bits that stayed from n on, and then from k on, which is n
pub bits_on : {n k : ℕ} {p q made r back : List ℕ} → SameBits n p q → SameBits k made r → k ≡ n → made ≡ q → back ≡ r → SameBits n p back
bits_on a b e f g = record { long = ap length g ∙ b.long ∙ ap length f ∙ a.long; beyond = λ j h. ap (λ x. bit_at x j) g ∙ b.beyond j (rw e h) ∙ ap (λ x. bit_at x j) f ∙ a.beyond j h }

-- an exchange of a new heap is done, and leaves its size
pub turned_new : (made turned : PlanesHeap) (n : ℕ) → cells_of_planes made ≡ new_cells n → turned ≡ unless_fault (exchange_fault (cells_of_planes made)) (swapped_planes made) made → (turned ≡ swapped_planes made) × (size_of_planes turned ≡ n)
turned_new made turned n fresh parts =
    let none : exchange_fault (new_cells n) ≡ None = ap grey_fault (first_none (new_cells n) 0 (λ j lo hi. refl)) in
    let swapped : turned ≡ swapped_planes made = parts ∙ ap (λ f. unless_fault f (swapped_planes made) made) (ap exchange_fault fresh ∙ none) in
    (swapped, ap size_of_planes swapped ∙ swapped_size made ∙ ap (λ c. c.size) fresh)
