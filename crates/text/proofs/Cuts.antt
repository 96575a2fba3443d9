-- A cut by the place of its stop, and what a cut says of the text.
use Rattle.std.proofs.Common.{◌≡◌, ℕ, ◌+◌, Bool, true, false, cond, eqb, ◌↔◌, List, [], ◌∷◌, ◌++◌, ◌==◌, take, drop, Some, None, Option, position, sym, refl, ap, ◌∙◌, subst, arith, eq-eqb, ne_eqb, eqb-true}
use Rattle.std.proofs.lemmas.Bool.{eqb-false}
use Rattle.std.proofs.lemmas.Grind.{common_steps}
use Rattle.std.proofs.lemmas.Bool.Decides.{nat_tests}
use Rattle.std.proofs.lemmas.Option.{none-some, some_pair_parts}
use Rattle.text.specs.Cut.{Cuts, Lacks, behind, cut_at}

-- the cut at a place, if there is one
abbrev pub split : List ℕ → Option ℕ → Option (List ℕ × List ℕ)
split xs None = None
split xs (Some i) = Some (take i xs, drop (i + 1) xs)

behind_split : (x : ℕ) (xs : List ℕ) (k : ℕ) (t : Bool) → behind (x ∷ []) (split xs (cond t (Some k) None)) ≡ split (x ∷ xs) (cond t (Some (1 + k)) None)
behind_split x xs k true = grind arith
behind_split x xs k false = refl

-- a cut is at the place of the first stop
pub cut_by_place : (stop : ℕ) (xs : List ℕ) → cut_at stop xs ≡ split xs (position (λ b. b == stop) xs)
cut_by_place stop [] = refl
cut_by_place stop (x ∷ xs) = by (cut_by_place stop xs) (eqb x stop) refl
  where
    by : cut_at stop xs ≡ split xs (position (λ b. b == stop) xs) → (t : Bool) → eqb x stop ≡ t → cond t (Some ([], xs)) (behind (x ∷ []) (cut_at stop xs)) ≡ split (x ∷ xs) (position (λ b. b == stop) (x ∷ xs))
    by h true q = grind (arith, common_steps)
    by h false q = ap (behind (x ∷ [])) h ∙ behind_split x xs _ _ ∙ ap (split (x ∷ xs)) (grind (arith, common_steps, nat_tests))

-- a cut joins to the text, and its front has no stop
abbrev Holds : ℕ → List ℕ → Type 0
Holds stop xs = (front rest : List ℕ) → cut_at stop xs ≡ Some (front, rest) → Cuts stop xs front rest

module _ (stop x : ℕ) (xs front rest : List ℕ) where
  holds_further : Holds stop xs → (x ≡ stop → ⊥) → (o : Option (List ℕ × List ℕ)) → cut_at stop xs ≡ o → behind (x ∷ []) o ≡ Some (front, rest) → Cuts stop (x ∷ xs) front rest
  holds_further more miss None q f = absurd (none-some _ f)
  holds_further more miss (Some parts) q f =
      let same = some_pair_parts _ _ _ _ f in
      let cut = more parts.0 parts.1 q in (
        ap (λ l. x ∷ l) cut.0 ∙ ap (λ l. l ++ (stop ∷ parts.1)) same.0 ∙ ap (λ l. front ++ (stop ∷ l)) same.1,
        subst (Lacks stop) same.0 (miss, cut.1),
      )

  holds_here : Holds stop xs → (t : Bool) → eqb x stop ≡ t → cond t (Some ([], xs)) (behind (x ∷ []) (cut_at stop xs)) ≡ Some (front, rest) → Cuts stop (x ∷ xs) front rest
  holds_here more true q e =
      let same = some_pair_parts _ _ _ _ e in (
        ap (λ y. y ∷ xs) (eqb-true x stop q) ∙ ap (λ l. stop ∷ l) same.1 ∙ ap (λ l. l ++ (stop ∷ rest)) same.0,
        subst (Lacks stop) same.0 tt,
      )
  holds_here more false q e = holds_further more (eqb-false x stop q) (cut_at stop xs) refl e

pub cut_holds : (stop : ℕ) (xs : List ℕ) → Holds stop xs
cut_holds stop [] front rest e = absurd (none-some _ e)
cut_holds stop (x ∷ xs) front rest e = holds_here stop x xs front rest (cut_holds stop xs) (eqb x stop) refl e

-- a text whose front has no stop is cut behind that front
pub cut_found : (stop : ℕ) (front rest : List ℕ) → Lacks stop front → cut_at stop (front ++ (stop ∷ rest)) ≡ Some (front, rest)
cut_found stop [] rest free = ap (λ t. cond t (Some ([], rest)) (behind (stop ∷ []) (cut_at stop rest))) (eq-eqb stop stop refl)
cut_found stop (x ∷ front) rest free =
    let text = front ++ (stop ∷ rest) in
    ap (λ t. cond t (Some ([], text)) (behind (x ∷ []) (cut_at stop text))) (ne_eqb x stop free.0)
    ∙ ap (behind (x ∷ [])) (cut_found stop front rest free.1)

pub cuts_exactly : (stop : ℕ) (xs front rest : List ℕ) → (cut_at stop xs ≡ Some (front, rest)) ↔ Cuts stop xs front rest
cuts_exactly stop xs front rest = (cut_holds stop xs front rest, λ c. ap (cut_at stop) c.0 ∙ cut_found stop front rest c.1)

-- a text is not cut exactly if it has no stop
pub cut_missing : (stop : ℕ) (xs : List ℕ) → Lacks stop xs → cut_at stop xs ≡ None
cut_missing stop [] free = refl
cut_missing stop (x ∷ xs) free =
    ap (λ t. cond t (Some ([], xs)) (behind (x ∷ []) (cut_at stop xs))) (ne_eqb x stop free.0)
    ∙ ap (behind (x ∷ [])) (cut_missing stop xs free.1)

behind_none : (p : List ℕ) (o : Option (List ℕ × List ℕ)) → behind p o ≡ None → o ≡ None
behind_none p None e = refl
behind_none p (Some parts) e = absurd (none-some _ (sym e))

pub missing_lacks : (stop : ℕ) (xs : List ℕ) → cut_at stop xs ≡ None → Lacks stop xs
missing_lacks stop [] e = tt
missing_lacks stop (x ∷ xs) e = by (missing_lacks stop xs) (eqb x stop) refl e
  where
    by : (cut_at stop xs ≡ None → Lacks stop xs) → (t : Bool) → eqb x stop ≡ t → cond t (Some ([], xs)) (behind (x ∷ []) (cut_at stop xs)) ≡ None → Lacks stop (x ∷ xs)
    by more true q e = absurd (none-some _ (sym e))
    by more false q e = (eqb-false x stop q, more (behind_none (x ∷ []) (cut_at stop xs) e))
