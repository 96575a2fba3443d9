-- The two passes fit together.
use Rattle.std.proofs.Common.{◌≡◌, ℕ, List, [], ◌∷◌, ◌++◌, length, take, drop, sym, ap, ◌∙◌, subst, arith}
use Rattle.std.proofs.lemmas.List.{length-append, length-take-le, take-append-drop, take_at}
use Rattle.numbering.specs.Lists.{In, Once}
use Rattle.numbering.proofs.Lists.{in_left}
use Rattle.loading.specs.Fit.{PassesFit}

-- where no number stands twice in two lists, none does in the first
once_left : (xs ys : List ℕ) → Once (xs ++ ys) → Once xs
once_left [] ys once = tt
once_left (x ∷ xs) ys once = (λ h. once.0 (in_left xs ys x h), once_left xs ys once.1)

-- the front of the free list has each of its cells once, and all of them exist
pub passes_fit : PassesFit
passes_fit cells free before places next pattern list enough told =
    let n = length pattern in
    let long = length-take-le n free enough in
    let front : take n places ≡ take n free = ap (take n) told.table ∙ take_at (take n free) (drop n before) n long in
    let split = take-append-drop n free in
    record {
      suits = record {
        room = omega (arith, ap length told.table ∙ length-append (take n free) (drop n before), long);
        once = subst Once (sym front) (once_left (take n free) (drop n free) (subst Once (sym split) list.once));
        inside = λ i h. (list.only i (subst (In i) split (in_left (take n free) (drop n free) i (subst (In i) front h)))).0;
      };
      names_are = front;
    }
