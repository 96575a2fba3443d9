-- What stands in a list of numbers, and how often.
use Rattle.std.proofs.Common.{◌≡◌, ℕ, zero, suc, ◌+◌, ◌<◌, ◌≤◌, true, false, eqb, ◌⊎◌, List, [], ◌∷◌, ◌++◌, map, length, get_or, sym, refl, ap, ◌∙◌, subst, inl, inr, arith}
use Rattle.std.specs.List.{range_with_len}
use Rattle.std.proofs.lemmas.List.{length-append}
use Rattle.std.proofs.lemmas.List.FromFn.{get_or-range_with_len, length-range_with_len}
use Rattle.std.proofs.lemmas.Bool.{both_ways, cases_Bool, cases_eq, eq-eqb, eqb-true, or_cases, or_left, or_right}
use Rattle.archive.specs.Pattern.{among}
use Rattle.numbering.specs.Lists.{In, Once, count_from}

-- What stands in two lists, one behind the other, stands in one of them.
pub in_append : (xs ys : List ℕ) (c : ℕ) → In c (xs ++ ys) → In c xs ⊎ In c ys
in_append [] ys c h = inr h
in_append (x ∷ xs) ys c (inl e) = inl (inl e)
in_append (x ∷ xs) ys c (inr h) = elim (in_append xs ys c h) [ inl p ↦ inl (inr p) | inr p ↦ inr p ]

pub in_left : (xs ys : List ℕ) (c : ℕ) → In c xs → In c (xs ++ ys)
in_left [] ys c h = absurd h
in_left (x ∷ xs) ys c (inl e) = inl e
in_left (x ∷ xs) ys c (inr h) = inr (in_left xs ys c h)

pub in_right : (xs ys : List ℕ) (c : ℕ) → In c ys → In c (xs ++ ys)
in_right [] ys c h = h
in_right (x ∷ xs) ys c h = inr (in_right xs ys c h)

-- .. and with one number more at the end, in the list or as that number
pub in_push : (xs : List ℕ) (y c : ℕ) → In c (xs ++ (y ∷ [])) → In c xs ⊎ (c ≡ y)
in_push xs y c h = elim (in_append xs (y ∷ []) c h) [ inl p ↦ inl p | inr p ↦ elim p [ inl e ↦ inr e | inr z ↦ absurd z ] ]

-- A number stands in a list exactly if it stands at one of its places.
pub in_at : (xs : List ℕ) (c : ℕ) → In c xs → (k : ℕ) × (k < length xs) × (get_or xs k 0 ≡ c)
in_at [] c h = absurd h
in_at (x ∷ xs) c (inl e) = (0, omega arith, sym e)
in_at (x ∷ xs) c (inr h) = let more = in_at xs c h in (suc more.0, omega (arith, more.1), more.2)

pub at_in : (xs : List ℕ) (k : ℕ) → k < length xs → In (get_or xs k 0) xs
at_in [] k h = absurd (omega arith)
at_in (x ∷ xs) zero h = inl refl
at_in (x ∷ xs) (suc k) h = inr (at_in xs k (omega arith))

-- What a function makes of a list: the images of what stands in it, and no other.
pub in_map : (f : ℕ → ℕ) (xs : List ℕ) (c : ℕ) → In c xs → In (f c) (map f xs)
in_map f [] c h = absurd h
in_map f (x ∷ xs) c (inl e) = inl (ap f e)
in_map f (x ∷ xs) c (inr h) = inr (in_map f xs c h)

pub map_in : (f : ℕ → ℕ) (xs : List ℕ) (d : ℕ) → In d (map f xs) → (c : ℕ) × In c xs × (f c ≡ d)
map_in f [] d h = absurd h
map_in f (x ∷ xs) d (inl e) = (x, inl refl, sym e)
map_in f (x ∷ xs) d (inr h) = let more = map_in f xs d h in (more.0, inr more.1, more.2)

-- The test `among` tells whether a number stands in a list.
pub among_in : (c : ℕ) (xs : List ℕ) → among c xs ≡ true → In c xs
among_in c [] e = absurd (both_ways false refl e)
among_in c (x ∷ xs) e = elim (or_cases (eqb c x) (among c xs) e) [ inl q ↦ inl (eqb-true c x q) | inr q ↦ inr (among_in c xs q) ]

pub in_among : (c : ℕ) (xs : List ℕ) → In c xs → among c xs ≡ true
in_among c [] h = absurd h
in_among c (x ∷ xs) (inl e) = or_left (eqb c x) (among c xs) (eq-eqb c x e)
in_among c (x ∷ xs) (inr h) = or_right (eqb c x) (among c xs) (in_among c xs h)

pub among_not : (c : ℕ) (xs : List ℕ) → among c xs ≡ false → In c xs → ⊥
among_not c xs e h = both_ways (among c xs) e (in_among c xs h)

pub not_among : (c : ℕ) (xs : List ℕ) → (In c xs → ⊥) → among c xs ≡ false
not_among c xs n = elim (cases_Bool (among c xs)) [ inl e ↦ absurd (n (among_in c xs e)) | inr e ↦ e ]

-- No number stands twice: with a new one at the end,
pub once_push : (xs : List ℕ) (y : ℕ) → Once xs → (In y xs → ⊥) → Once (xs ++ (y ∷ []))
once_push [] y once new = (λ h. h, tt)
once_push (x ∷ xs) y once new = (
  λ h. elim (in_push xs y x h) [ inl p ↦ once.0 p | inr e ↦ new (inl (sym e)) ],
  once_push xs y once.1 (λ h. new (inr h)),
)

-- in the second of two lists, and not in both of them,
pub once_right : (xs ys : List ℕ) → Once (xs ++ ys) → Once ys
once_right [] ys once = once
once_right (x ∷ xs) ys once = once_right xs ys once.1

pub once_apart : (xs ys : List ℕ) (c : ℕ) → Once (xs ++ ys) → In c xs → In c ys → ⊥
once_apart [] ys c once p q = p
once_apart (x ∷ xs) ys c once (inl e) q = once.0 (in_right xs ys x (subst (λ i. In i ys) e q))
once_apart (x ∷ xs) ys c once (inr p) q = once_apart xs ys c once.1 p q

-- nor at two places.
pub once_places : (xs : List ℕ) (j k : ℕ) → Once xs → j < length xs → k < length xs → get_or xs j 0 ≡ get_or xs k 0 → j ≡ k
once_places [] j k once p q e = absurd (omega arith)
once_places (x ∷ xs) zero zero once p q e = refl
once_places (x ∷ xs) zero (suc k) once p q e = absurd (once.0 (subst (λ i. In i xs) (sym e) (at_in xs k (omega arith))))
once_places (x ∷ xs) (suc j) zero once p q e = absurd (once.0 (subst (λ i. In i xs) e (at_in xs j (omega arith))))
once_places (x ∷ xs) (suc j) (suc k) once p q e = ap suc (once_places xs j k once.1 (omega arith) (omega arith) e)

-- a list parted at a number that stands in it
parted : (xs : List ℕ) (c : ℕ) → In c xs → (before : List ℕ) × (after : List ℕ) × (xs ≡ before ++ (c ∷ after))
parted [] c h = absurd h
parted (x ∷ xs) c (inl e) = ([], xs, ap (λ i. i ∷ xs) (sym e))
parted (x ∷ xs) c (inr h) = let more = parted xs c h in (x ∷ more.0, more.1, ap (λ l. x ∷ l) more.2)

-- numbers that all stand in another list, each once, are no more than that list has
pub few_within : (xs ys : List ℕ) → Once xs → ((c : ℕ) → In c xs → In c ys) → length xs ≤ length ys
few_within [] ys once within = omega arith
few_within (x ∷ xs) ys once within =
    let part = parted ys x (within x (inl refl)) in
    let before = part.0 in
    let after = part.1 in
    let long = ap length part.2 ∙ length-append before (x ∷ after) in
    let less = few_within xs (before ++ after) once.1 (λ c h. other before after c h (subst (In c) part.2 (within c (inr h)))) in
    omega (arith, length-append before after)
  where
    other : (before after : List ℕ) (c : ℕ) → In c xs → In c (before ++ (x ∷ after)) → In c (before ++ after)
    other before after c h q = elim (in_append before (x ∷ after) c q) [
      | inl p ↦ in_left before after c p
      | inr p ↦ elim p [ inl e ↦ absurd (once.0 (subst (λ i. In i xs) e h)) | inr r ↦ in_right before after c r ]
    ]

-- The numbers from k on, n of them: as the library spells them,
count_range : (k n : ℕ) → count_from k n ≡ range_with_len k n
count_range k zero = refl
count_range k (suc n) = ap (λ l. k ∷ l) (count_range (suc k) n ∙ ap (λ i. range_with_len i n) (let next : suc k ≡ k + 1 = omega arith in next))

-- how many, which, where, and each once.
pub length_count : (k n : ℕ) → length (count_from k n) ≡ n
length_count k n = ap length (count_range k n) ∙ length-range_with_len k n

pub in_count : (k n c : ℕ) → In c (count_from k n) → (k ≤ c) × (c < k + n)
in_count k zero c h = absurd h
in_count k (suc n) c (inl e) = (omega arith, omega arith)
in_count k (suc n) c (inr h) = let more = in_count (suc k) n c h in (omega (arith, more.0), omega (arith, more.1))

pub count_in : (k n c : ℕ) → k ≤ c → c < k + n → In c (count_from k n)
count_in k zero c low high = absurd (omega arith)
count_in k (suc n) c low high = elim (cases_eq c k) [ inl e ↦ inl e | inr e ↦ inr (count_in (suc k) n c (omega arith) (omega arith)) ]

pub count_at : (k n j : ℕ) → j < n → get_or (count_from k n) j 0 ≡ k + j
count_at k n j h = ap (λ l. get_or l j 0) (count_range k n) ∙ get_or-range_with_len k n j 0 h

pub count_once : (k n : ℕ) → Once (count_from k n)
count_once k zero = tt
count_once k (suc n) = (λ h. let low = (in_count (suc k) n k h).0 in omega arith, count_once (suc k) n)

pub count_push : (k n : ℕ) → count_from k (suc n) ≡ count_from k n ++ ((k + n) ∷ [])
count_push k zero = ap (λ i. i ∷ []) (omega arith)
count_push k (suc n) = ap (λ l. k ∷ l) (count_push (suc k) n ∙ ap (λ i. count_from (suc k) n ++ (i ∷ [])) (omega arith))

-- There are no more than n numbers below n.
pub few_below : (n : ℕ) (xs : List ℕ) → Once xs → ((c : ℕ) → In c xs → c < n) → length xs ≤ n
few_below n xs once below =
    let few = few_within xs (count_from 0 n) once (λ c h. count_in 0 n c (omega arith) (omega (arith, below c h))) in
    omega (arith, length_count 0 n)
