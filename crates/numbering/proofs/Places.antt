-- The first n places of a pattern that lies in a store: how many, which, where, and one more.
use Rattle.std.proofs.Common.{◌≡◌, ℕ, suc, ◌+◌, ◌<◌, [], ◌∷◌, ◌++◌, map, length, get_or, ap, ◌∙◌, arith}
use Rattle.std.proofs.lemmas.List.{get_or-map, length-map, map_push}
use Rattle.numbering.specs.Laws.{places_of}
use Rattle.numbering.specs.Lists.{In, count_from}
use Rattle.numbering.proofs.Lists.{count_at, count_in, count_push, in_count, in_map, length_count, map_in}

module _ (at : ℕ → ℕ) where
  pub places_length : (n : ℕ) → length (places_of at n) ≡ n
  places_length n = length-map (count_from 0 n) at ∙ length_count 0 n

  pub places_in : (n k : ℕ) → k < n → In (at k) (places_of at n)
  places_in n k h = in_map at (count_from 0 n) k (count_in 0 n k (omega arith) (omega arith))

  pub in_places : (n c : ℕ) → In c (places_of at n) → (k : ℕ) × (k < n) × (at k ≡ c)
  in_places n c h =
      let from = map_in at (count_from 0 n) c h in
      (from.0, omega (arith, (in_count 0 n from.0 from.1).1), from.2)

  pub places_at : (n k : ℕ) → k < n → get_or (places_of at n) k 0 ≡ at k
  places_at n k h = get_or-map at (count_from 0 n) k 0 0 (rw (length_count 0 n) h) ∙ ap at (count_at 0 n k h ∙ omega arith)

  pub places_push : (n : ℕ) → places_of at (suc n) ≡ places_of at n ++ (at n ∷ [])
  places_push n =
      ap (map at) (count_push 0 n)
      ∙ map_push at (count_from 0 n) (0 + n)
      ∙ ap (λ k. places_of at n ++ (at k ∷ [])) (omega arith)
