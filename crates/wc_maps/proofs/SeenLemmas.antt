-- Things that were seen, and whether one of them comes again.
use Rattle.std.proofs.Common.{String, Option, Some, string_bytes, ◌≡◌, ◌≢◌, ◌↔◌, ℕ, Bool, true, false, not, cond, List, [], ◌∷◌, ◌++◌, map, AllPairs, Contains}
use Rattle.std.proofs.Common.{refl, sym, ap, ◌∙◌, subst, inl, inr, arith, append_assoc}
use Rattle.std.specs.List.{list_any}
use Rattle.std.specs.declared.alloc.Global.{Global}
use Rattle.std.proofs.lemmas.List.{map-append}
use Rattle.std.proofs.lemmas.List.Elements.{All-contains, Contains-append_right, Contains-get_or}
use Rattle.std.proofs.lemmas.List.Quantifiers.{all_pairs_push}
use Rattle.std.proofs.lemmas.Bool.{or_cases, or_left, or_right, not-true, not-false}
use Rattle.wc_maps.proofs.PairLemmas.{pairs_head, pairs_tail}
use Rattle.wc_maps.proofs.ListLemmas.{contains_cons, contains_head, contains_none, contains_tail}

-- a name, as the text that it is
abbrev pub name_text : String Global → Option (List ℕ)
name_text s = Some (string_bytes s)

twice : {V : Type 0} (xs rest : List V) (n : V) → Contains xs n → AllPairs (λ x y. x ≢ y) (xs ++ n ∷ rest) → ⊥
twice [] rest n h distinct = contains_none n h
twice (x ∷ xs) rest n h distinct =
    elim (contains_cons x xs n h) [
      | inl same ↦ All-contains (λ y. x ≢ y) (xs ++ n ∷ rest) n (pairs_head (λ x y. x ≢ y) x (xs ++ n ∷ rest) distinct)
          (Contains-append_right xs (n ∷ rest) n (contains_head rest n)) same
      | inr later ↦ twice xs rest n later (pairs_tail (λ x y. x ≢ y) x (xs ++ n ∷ rest) distinct)
    ]

module _ {K V : Type 0} (v : K → V) where
  any_contains : (test : K → Bool) (n : V) → ((y : K) → (test y ≡ true) ↔ (n ≡ v y)) → (keys : List K) → list_any test keys ≡ true → Contains (map v keys) n
  any_contains test n law [] h = absurd (let e : false ≡ true = h in let bad : ⊥ = cc e in bad)
  any_contains test n law (x ∷ keys) h =
      elim (or_cases (test x) (list_any test keys) h) [
        | inl e ↦ subst (λ (z : V). Contains (v x ∷ map v keys) z) (sym ((law x).0 e)) (contains_head (map v keys) (v x))
        | inr rest ↦ contains_tail (v x) (map v keys) n (any_contains test n law keys rest)
      ]

  contains_any : (test : K → Bool) (n : V) → ((y : K) → (test y ≡ true) ↔ (n ≡ v y)) → (keys : List K) → Contains (map v keys) n → list_any test keys ≡ true
  contains_any test n law [] h = absurd (contains_none n h)
  contains_any test n law (x ∷ keys) h =
      elim (contains_cons (v x) (map v keys) n h) [
        | inl same ↦ or_left (test x) (list_any test keys) ((law x).1 (sym same))
        | inr rest ↦ or_right (test x) (list_any test keys) (contains_any test n law keys rest)
      ]

  -- the keys, seen as things, and then those that are left, are all things; no two of the keys are equal
  pub record IsSeen (all_items left : List V) (keys : List K) : Type 0 where
    pub split : all_items ≡ map v keys ++ left
    pub distinct : AllPairs (λ x y. x ≢ y) (map v keys)

  pub seen_none : (all_items : List V) → IsSeen all_items all_items []
  seen_none all_items = record { split = refl; distinct = λ i j d less small. absurd (omega (arith, small)) }

  -- one more, which was not seen
  pub seen_more : (all_items left rest : List V) (test : K → Bool) (keys after : List K) (k : K) (n : V) (new : Bool)
      → ((y : K) → (test y ≡ true) ↔ (n ≡ v y)) → v k ≡ n → IsSeen all_items left keys → left ≡ n ∷ rest → new ≡ not (list_any test keys) → new ≡ true
      → after ≡ cond (list_any test keys) keys (keys ++ k ∷ []) → IsSeen all_items rest after
  seen_more all_items left rest test keys after k n new law is s next e t made =
      let fresh : list_any test keys ≡ false = not-true (list_any test keys) (sym e ∙ t) in
      let grown : after ≡ keys ++ k ∷ [] = made ∙ ap (λ b. cond b keys (keys ++ k ∷ [])) fresh in
      let mapped : map v after ≡ map v keys ++ n ∷ [] = ap (λ ks. map v ks) grown ∙ map-append v keys (k ∷ []) ∙ ap (λ z. map v keys ++ z ∷ []) is in
      let absent : Contains (map v keys) n → ⊥ = λ h.
      let found : list_any test keys ≡ true = contains_any test n law keys h in
      let bad : true ≡ false = sym found ∙ fresh in let none : ⊥ = cc bad in none in
      record {
        split = s.split ∙ ap (λ z. map v keys ++ z) next ∙ sym (append_assoc (map v keys) (n ∷ []) rest) ∙ ap (λ z. z ++ rest) (sym mapped);
        distinct = subst (AllPairs (λ x y. x ≢ y)) (sym mapped)
            (all_pairs_push (λ x y. x ≢ y) (map v keys) n s.distinct
            (λ i d small same. absent (subst (Contains (map v keys)) same (Contains-get_or (map v keys) i d small))));
      }

  -- one that was seen comes again
  pub seen_again : (all_items left rest : List V) (test : K → Bool) (keys : List K) (n : V) (new : Bool)
      → ((y : K) → (test y ≡ true) ↔ (n ≡ v y)) → IsSeen all_items left keys → left ≡ n ∷ rest → new ≡ not (list_any test keys) → new ≡ false
      → AllPairs (λ x y. x ≢ y) all_items → ⊥
  seen_again all_items left rest test keys n new law s next e f distinct =
      let found : Contains (map v keys) n = any_contains test n law keys (not-false (list_any test keys) (sym e ∙ f)) in
      let at : all_items ≡ map v keys ++ n ∷ rest = s.split ∙ ap (λ z. map v keys ++ z) next in
      twice (map v keys) rest n found (subst (AllPairs (λ x y. x ≢ y)) at distinct)
