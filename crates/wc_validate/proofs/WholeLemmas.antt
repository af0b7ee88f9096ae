-- Entries by modules, and one entry more that is all of a module of the component.
use Rattle.std.proofs.Common.{◌≡◌, ℕ, Bool, true, false, cond, List, [], ◌∷◌, ◌++◌, map, Some, None, refl, sym, ap, subst, ◌∙◌, inl, inr}
use Rattle.std.specs.List.{filter_map, cons_option}
use Rattle.std.specs.Map.{lookup}
use Rattle.std.specs.Str.{bytes_eq}
use Rattle.std.proofs.lemmas.List.{map-append}
use Rattle.std.proofs.lemmas.List.Elements.{filter_map-append}
use Rattle.wc_adapters.specs.Adapters.{WhichView}
use Rattle.wc_validate.specs.Imports.Entries.{Entry, whole, entry_module, InstanceRecord, all_of, names_of, single_of, whole_of, instance_record, by_modules, Records}
use Rattle.wc_texts.specs.Names.{first_occurrences}
use Rattle.wc_validate.specs.Imports.Instances.{IsWholePut}
use Rattle.wc_validate.proofs.InstanceLemmas.{self, same, other, NoneIs, among, seen, unseen, new_module, old_module, append_none, recorded, lone_whole, found_once}

module _ (xs : List Entry) (m : List ℕ) (w : WhichView) where
  abbrev more : List Entry
  more = xs ++ whole m w ∷ []

  singles : (k : List ℕ) → filter_map (single_of k) more ≡ filter_map (single_of k) xs
  singles k = filter_map-append (single_of k) xs (whole m w ∷ []) ∙ append_none (filter_map (single_of k) xs)

  wholes_at : (k : List ℕ) (b : Bool) → bytes_eq k m ≡ b → filter_map (whole_of k) more ≡ filter_map (whole_of k) xs ++ cons_option (cond b (Some w) None) []
  wholes_at k b is = filter_map-append (whole_of k) xs (whole m w ∷ []) ∙ ap (λ z. filter_map (whole_of k) xs ++ cons_option (cond z (Some w) None) []) is

  record_at : (k : List ℕ) (ws : List WhichView) → instance_record more k ws ≡ instance_record xs k ws
  record_at k [] = ap names_of (singles k)
  record_at k (x ∷ ws) = refl

  others_stay : (k : List ℕ) → bytes_eq m k ≡ false → recorded more k ≡ recorded xs k
  others_stay k differ =
      ap (λ z. (k, instance_record more k z)) (wholes_at k false (other m k differ) ∙ append_none (filter_map (whole_of k) xs))
      ∙ ap (λ z. (k, z)) (record_at k (filter_map (whole_of k) xs))

  -- a module that is recorded as all of another one stays
  known_at : (k : List ℕ) (first : WhichView) (ws : List WhichView) (b : Bool) → bytes_eq k m ≡ b → filter_map (whole_of k) xs ≡ first ∷ ws
      → recorded more k ≡ recorded xs k
  known_at k first ws b is known =
      ap (λ z. (k, instance_record more k z)) (wholes_at k b is ∙ ap (λ z. z ++ cons_option (cond b (Some w) None) []) known)
      ∙ sym (ap (λ z. (k, instance_record xs k z)) known)

  stays : (first : WhichView) (ws : List WhichView) → filter_map (whole_of m) xs ≡ first ∷ ws → (k : List ℕ) (b : Bool) → bytes_eq m k ≡ b
      → recorded more k ≡ recorded xs k
  stays first ws known k false differ = others_stay k differ
  stays first ws known k true is = known_at k first ws (bytes_eq k m) refl (subst (λ z. filter_map (whole_of z) xs ≡ first ∷ ws) (same m k is) known)

  all_stay : (first : WhichView) (ws : List WhichView) → filter_map (whole_of m) xs ≡ first ∷ ws → (ks : List (List ℕ))
      → map (recorded more) ks ≡ map (recorded xs) ks
  all_stay first ws known [] = refl
  all_stay first ws known (k ∷ ks) =
      ap (λ z. z ∷ map (recorded more) ks) (stays first ws known k (bytes_eq m k) refl) ∙ ap (λ z. recorded xs k ∷ z) (all_stay first ws known ks)

  none_stay : (ks : List (List ℕ)) → NoneIs m ks → map (recorded more) ks ≡ map (recorded xs) ks
  none_stay [] h = refl
  none_stay (k ∷ ks) h = ap (λ z. z ∷ map (recorded more) ks) (others_stay k h.0) ∙ ap (λ z. recorded xs k ∷ z) (none_stay ks h.1)

  new_whole : filter_map (whole_of m) xs ≡ [] → recorded more m ≡ (m, all_of w)
  new_whole none = ap (λ z. (m, instance_record more m z)) (wholes_at m true (self m) ∙ ap (λ z. z ++ w ∷ []) none)

  modules_more : map entry_module more ≡ map entry_module xs ++ m ∷ []
  modules_more = map-append entry_module xs (whole m w ∷ [])

  pub whole_new : among m (map entry_module xs) ≡ false → by_modules more ≡ by_modules xs ++ (m, all_of w) ∷ []
  whole_new absent =
      ap (λ ms. map (recorded more) (first_occurrences ms)) modules_more
      ∙ (ap (map (recorded more)) (new_module m (map entry_module xs) absent)
      ∙ (map-append (recorded more) (first_occurrences (map entry_module xs)) (m ∷ [])
      ∙ (ap (λ z. z ++ recorded more m ∷ []) (none_stay (first_occurrences (map entry_module xs)) (unseen m (map entry_module xs) absent))
      ∙ ap (λ z. by_modules xs ++ z ∷ []) (new_whole (lone_whole m xs absent)))))

  pub whole_again : (first : WhichView) (ws : List WhichView) → among m (map entry_module xs) ≡ true → filter_map (whole_of m) xs ≡ first ∷ ws
      → by_modules more ≡ by_modules xs
  whole_again first ws there known =
      ap (λ ms. map (recorded more) (first_occurrences ms)) modules_more
      ∙ (ap (map (recorded more)) (old_module m (map entry_module xs) there) ∙ all_stay first ws known (first_occurrences (map entry_module xs)))

-- what is looked up of a module that was not seen
found_none : (xs : List Entry) (m : List ℕ) (ks : List (List ℕ)) → NoneIs m ks → lookup (bytes_eq m) (map (recorded xs) ks) ≡ None
found_none xs m [] h = refl
found_none xs m (k ∷ ks) h = ap (λ b. cond b (Some (recorded xs k).1) (lookup (bytes_eq m) (map (recorded xs) ks))) h.0 ∙ found_none xs m ks h.1

found : (xs : List Entry) (m : List ℕ) → among m (map entry_module xs) ≡ true
    → lookup (bytes_eq m) (by_modules xs) ≡ Some (instance_record xs m (filter_map (whole_of m) xs))
found xs m is = found_once xs m (first_occurrences (map entry_module xs)) (seen m (map entry_module xs) is)

absent : (xs : List Entry) (m : List ℕ) → among m (map entry_module xs) ≡ false → lookup (bytes_eq m) (by_modules xs) ≡ None
absent xs m is = found_none xs m (first_occurrences (map entry_module xs)) (unseen m (map entry_module xs) is)

unseen_by : (xs : List Entry) (m : List ℕ) (b : Bool) → among m (map entry_module xs) ≡ b → lookup (bytes_eq m) (by_modules xs) ≡ None → b ≡ false
unseen_by xs m false is none = refl
unseen_by xs m true is none =
    let both : Some (instance_record xs m (filter_map (whole_of m) xs)) ≡ None = sym (found xs m is) ∙ none in absurd (let bad : ⊥ = cc both in bad)

seen_by : (xs : List Entry) (m : List ℕ) (r : InstanceRecord) (b : Bool) → among m (map entry_module xs) ≡ b → lookup (bytes_eq m) (by_modules xs) ≡ Some r
    → b ≡ true
seen_by xs m r true is there = refl
seen_by xs m r false is there = let both : None ≡ Some r = sym (absent xs m is) ∙ there in absurd (let bad : ⊥ = cc both in bad)

first_whole : (xs : List Entry) (m : List ℕ) (w : WhichView) (ws : List WhichView) → filter_map (whole_of m) xs ≡ ws
    → Some (instance_record xs m ws) ≡ Some (all_of w) → (first : WhichView) × (rest : List WhichView) × (filter_map (whole_of m) xs ≡ first ∷ rest)
first_whole xs m w [] is there = absurd (let bad : ⊥ = cc there in bad)
first_whole xs m w (first ∷ rest) is there = (first, rest, is)

-- one entry more that is all of a module of the component
pub whole_after : (xs : List Entry) (m : List ℕ) (w : WhichView) (old new : Records) → old ≡ by_modules xs → IsWholePut old new m w
    → new ≡ by_modules (xs ++ whole m w ∷ [])
whole_after xs m w old new is (inl h) =
    h.1 ∙ (ap (λ z. z ++ (m, all_of w) ∷ []) is ∙ sym (whole_new xs m w
    (unseen_by xs m (among m (map entry_module xs)) refl (subst (λ z. lookup (bytes_eq m) z ≡ None) is h.0))))
whole_after xs m w old new is (inr h) =
    let there = subst (λ z. lookup (bytes_eq m) z ≡ Some (all_of w)) is h.0 in
    let seen_it = seen_by xs m (all_of w) (among m (map entry_module xs)) refl there in
    let first = first_whole xs m w (filter_map (whole_of m) xs) refl (sym (found xs m seen_it) ∙ there) in
    h.1 ∙ (is ∙ sym (whole_again xs m w first.0 first.1 seen_it first.2))
