-- Where no member is there again, no object has a key twice.
use Rattle.std.proofs.Common.{◌≡◌, ◌≢◌, inl, inr, ℕ, zero, suc, ◌<◌, false, cond, List, [], ◌∷◌, ◌++◌, length, get_or, map, Option, Some, None, IsSome, refl, sym, ap, subst, ◌∙◌, arith, append-nil, append_assoc}
use Rattle.std.specs.List.{list_any}
use Rattle.std.specs.Str.{bytes_eq}
use Rattle.std.proofs.lemmas.Bool.{cases_Bool, or_parts}
use Rattle.std.proofs.lemmas.List.Quantifiers.{all_pairs_push}
use Rattle.std.proofs.lemmas.Slice.Eq.{bytes_eq-Decides}
use Rattle.json.specs.Json.{Json, null, boolean, number, string, array, object, Items, no_items, item, Members, no_members, member}
use Rattle.json.specs.Strict.{AreDistinct, HasUniqueKeys, ItemsHaveUniqueKeys, MembersHaveUniqueKeys, keys}
use Rattle.wc_json.specs.Paths.{index_step}
use Rattle.wc_json.specs.RepeatedMembers.{first_path, name_step, repeat_of, repeats, repeats_from, repeats_after}

absent : (k : List ℕ) (names : List (List ℕ)) → list_any (λ t. bytes_eq k t) names ≡ false → (i : ℕ) (d : List ℕ) → i < length names → get_or names i d ≢ k
absent k [] e i d lt same = absurd (omega (arith, lt))
absent k (n ∷ names) e zero d lt same = absurd (let hit = (bytes_eq-Decides k n).1 (sym same) in let miss = (or_parts (bytes_eq k n) _ e).0 in cc)
absent k (n ∷ names) e (suc i) d lt same = absent k names (or_parts (bytes_eq k n) _ e).1 i d (omega (arith, lt)) same

none_both : (f : List ℕ → List ℕ) (a b : List (List ℕ)) → None ≡ first_path (map f a ++ b) → (None ≡ first_path a) × (None ≡ first_path b)
none_both f [] b e = (refl, e)
none_both f (p ∷ a) b e = absurd (let bad : None ≡ Some (f p) = e in cc)

first_name : (names : List (List ℕ)) (k : List ℕ) (rest : List (List ℕ)) → None ≡ first_path (repeat_of names k ++ rest) → list_any (λ t. bytes_eq k t) names ≡ false
first_name names k rest e = elim (cases_Bool (list_any (λ t. bytes_eq k t) names)) [
  | inl old ↦ absurd (let bad : None ≡ Some (name_step k) = e ∙ ap (λ b. first_path (cond b (name_step k ∷ []) [] ++ rest)) old in cc)
  | inr new ↦ new
]

mutual
  unique : (j : Json) → None ≡ first_path (repeats j) → HasUniqueKeys j
  unique null e = tt
  unique (boolean b) e = tt
  unique (number s) e = tt
  unique (string s) e = tt
  unique (array js) e = unique_items 0 js e
  unique (object ms) e = let both : AreDistinct (keys ms) × MembersHaveUniqueKeys ms = unique_members [] ms (λ i j d less small. absurd (omega (arith, small))) e in both

  unique_items : (n : ℕ) (js : Items) → None ≡ first_path (repeats_from n js) → ItemsHaveUniqueKeys js
  unique_items n no_items e = tt
  unique_items n (item j js) e =
      let p = none_both (λ path. index_step n ++ path) (repeats j) (repeats_from (suc n) js) e in
      (unique j p.0, unique_items (suc n) js p.1)

  unique_members : (names : List (List ℕ)) (ms : Members) → AreDistinct names → None ≡ first_path (repeats_after names ms) → AreDistinct (names ++ keys ms) × MembersHaveUniqueKeys ms
  unique_members names no_members d e = (subst AreDistinct (sym (append-nil names)) d, tt)
  unique_members names (member k j ms) d e =
      let rest : List (List ℕ) = map (λ path. name_step k ++ path) (repeats j) ++ repeats_after (names ++ k ∷ []) ms in
      let new : list_any (λ t. bytes_eq k t) names ≡ false = first_name names k rest e in
      let none : None ≡ first_path rest = e ∙ ap (λ b. first_path (cond b (name_step k ∷ []) [] ++ rest)) new in
      let p = none_both (λ path. name_step k ++ path) (repeats j) (repeats_after (names ++ k ∷ []) ms) none in
      let more = unique_members (names ++ k ∷ []) ms (all_pairs_push (λ a b. a ≢ b) names k d (absent k names new)) p.1 in
      (subst AreDistinct (append_assoc names (k ∷ []) (keys ms)) more.0, (unique j p.0, more.1))

some_path : (o : Option (List ℕ)) → (None ≡ o → ⊥) → IsSome o
some_path None h = absurd (h refl)
some_path (Some p) h = refl

pub repeats_there : (j : Json) → ¬ HasUniqueKeys j → IsSome (first_path (repeats j))
repeats_there j twice = some_path (first_path (repeats j)) (λ e. twice (unique j e))
