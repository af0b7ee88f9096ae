-- Exports after an index, and what an export depends on.
use Rattle.std.proofs.Common.{◌≡◌, ◌↔◌, ℕ, zero, suc, ◌+◌, ◌<◌, ◌≤◌, Bool, true, false, List, [], ◌∷◌, map, length, drop, get_or, Option, Some, All, Contains, IsTrue, position, refl, sym, ap, ◌∙◌, subst, inl, inr, arith}
use Rattle.std.specs.List.{IsDistinct}
use Rattle.std.proofs.lemmas.Bool.{cases_lt}
use Rattle.std.proofs.lemmas.List.{drop-map, get_or-map, length-map}
use Rattle.std.specs.Map.{keys_of}
use Rattle.std.proofs.lemmas.List.Elements.{All-contains, Contains-get_or}
use Rattle.std.proofs.lemmas.List.Quantifiers.{position-Some}
use Rattle.std.proofs.lemmas.Map.Keys.{apart_from_distinct}
use Rattle.wc_resolve.specs.declared.worlds.WorldKey.{WorldKey}
use Rattle.wc_resolve.specs.declared.worlds.WorldItem.{WorldItem}
use Rattle.wc_resolve.specs.Dependencies.{direct_dependencies}
use Rattle.wc_resolve.specs.Views.{KeyView, plain_key, interface_key, ItemView, interface_item, key_view, world_entry}
use Rattle.wc_resolve.specs.Kinds.{ResolveView}
use Rattle.wc_maps.proofs.ListLemmas.{contains_cons, contains_head, contains_none, contains_tail}
use Rattle.wc_encoder.specs.Dependencies.{DependsOn}
use Rattle.wc_adapters.specs.Entries.{Entries, entry_keys}
use Rattle.wc_encoder.specs.Exported.{IsExported}

-- what a list has at an index past the first n, the rest after n has
pub contains_after : {X : Type 0} (xs : List X) (n i : ℕ) (d : X) → n ≤ i → i < length xs → Contains (drop n xs) (get_or xs i d)
contains_after xs zero i d past small = Contains-get_or xs i d small
contains_after [] (suc n) i d past small = absurd (omega (arith, small))
contains_after (x ∷ xs) (suc n) zero d past small = absurd (omega (arith, past))
contains_after (x ∷ xs) (suc n) (suc i) d past small = contains_after xs n i d (omega (arith, past)) (omega (arith, small))

-- and what the rest has, the list has at such an index
pub index_after : {X : Type 0} (xs : List X) (n : ℕ) (x : X) → Contains (drop n xs) x → (i : ℕ) × (n ≤ i) × (i < length xs) × (get_or xs i x ≡ x)
index_after xs zero x h = (h.0, omega arith, h.1, h.2)
index_after [] (suc n) x h = absurd (omega (arith, h.1))
index_after (y ∷ xs) (suc n) x h = let p = index_after xs n x h in (suc p.0, omega (arith, p.1), omega (arith, p.2), p.3)

-- what a mapped list has is the image of something that the list has
contains_mapped : {X Y : Type 0} (f : X → Y) (xs : List X) (y : Y) → Contains (map f xs) y → (x : X) × Contains xs x × (f x ≡ y)
contains_mapped f [] y h = absurd (contains_none y h)
contains_mapped f (x ∷ xs) y h =
    elim (contains_cons (f x) (map f xs) y h) [
      | inl same ↦ (x, contains_head xs x, same)
      | inr later ↦ let p = contains_mapped f xs y later in (p.0, contains_tail x xs p.0 p.1, p.2)
    ]

-- the keys of the exports after n others are those of all exports, after n
keys_after : (es : List (WorldKey × WorldItem)) (n : ℕ) → entry_keys (drop n (map world_entry es)) ≡ drop n (map key_view (keys_of es))
keys_after [] zero = refl
keys_after [] (suc n) = refl
keys_after (e ∷ es) zero = ap (λ z. key_view e.0 ∷ z) (keys_after es zero)
keys_after (e ∷ es) (suc n) = keys_after es n

module _ (eq : WorldKey → WorldKey → Bool) (law : (a b : WorldKey) → (eq a b ≡ true) ↔ (key_view a ≡ key_view b)) (q : WorldKey) (ks : List WorldKey) (distinct : IsDistinct eq ks) where
  -- the first index of a key is the only one
  only_index : (at i : ℕ) → position (eq q) ks ≡ Some at → i < length ks → get_or (map key_view ks) i (key_view q) ≡ key_view q → i ≡ at
  only_index at i first small here =
      let seen = position-Some (eq q) ks at q first in
      let same : key_view (get_or ks i q) ≡ key_view q = sym (get_or-map key_view ks i q (key_view q) small) ∙ here in
      let passes : eq q (get_or ks i q) ≡ true = (law q (get_or ks i q)).1 (sym same) in
      let alike : key_view q ≡ key_view (get_or ks at q) = (law q (get_or ks at q)).0 seen.1 in
      elim (cases_lt i at) [
        | inl before ↦ absurd (let e : true ≡ false = sym passes ∙ seen.2 i before in let bad : ⊥ = cc e in bad)
        | inr past ↦ elim (cases_lt at i) [
          | inl after ↦ absurd (
              let unequal : eq (get_or ks at q) (get_or ks i q) ≡ false = apart_from_distinct eq ks at i q distinct after small in
              let equal : eq (get_or ks at q) (get_or ks i q) ≡ true = (law (get_or ks at q) (get_or ks i q)).1 (sym alike ∙ sym same) in
              let e : true ≡ false = sym equal ∙ unequal in let bad : ⊥ = cc e in bad)
          | inr upto ↦ omega (arith, past, upto)
        ]
      ]

  -- a key is past the first n where its first index is
  index_found : (n at : ℕ) → position (eq q) ks ≡ Some at → (n ≤ at) ↔ Contains (drop n (map key_view ks)) (key_view q)
  index_found n at first =
      let seen = position-Some (eq q) ks at q first in
      let small : at < length (map key_view ks) = omega (arith, seen.0, length-map ks key_view) in
      let here : get_or (map key_view ks) at (key_view q) ≡ key_view q = get_or-map key_view ks at q (key_view q) seen.0 ∙ sym ((law q (get_or ks at q)).0 seen.1) in (
        (λ past. subst (λ (z : KeyView). Contains (drop n (map key_view ks)) z) here (contains_after (map key_view ks) n at (key_view q) past small)),
        (λ h. let p = index_after (map key_view ks) n (key_view q) h in
            let same : p.0 ≡ at = only_index at p.0 first (omega (arith, p.2, length-map ks key_view)) p.3 in omega (arith, same, p.1)),
      )

pub after_some : (eq : WorldKey → WorldKey → Bool) → ((a b : WorldKey) → (eq a b ≡ true) ↔ (key_view a ≡ key_view b)) → (q : WorldKey) (es : List (WorldKey × WorldItem)) → IsDistinct eq (keys_of es)
    → (index at : ℕ) (b : Bool) → position (eq q) (keys_of es) ≡ Some at → IsTrue b ↔ (index < at) → IsTrue b ↔ IsExported (drop (index + 1) (map world_entry es)) (key_view q)
unfolding IsExported
after_some eq law q es distinct index at b first test =
    let p = index_found eq law q (keys_of es) distinct (index + 1) at first in
    let keys : entry_keys (drop (index + 1) (map world_entry es)) ≡ drop (index + 1) (map key_view (keys_of es)) = keys_after es (index + 1) in (
      (λ t. let h : Contains (drop (index + 1) (map key_view (keys_of es))) (key_view q) = p.0 (let less : index < at = test.0 t in omega (arith, less)) in
          subst (λ (z : List KeyView). Contains z (key_view q)) (sym keys) h),
      (λ h. let past : index + 1 ≤ at = p.1 (subst (λ (z : List KeyView). Contains z (key_view q)) keys h) in test.1 (omega (arith, past))),
    )

-- a key that is no export is none after an index
pub after_none : (q : KeyView) (es : List (WorldKey × WorldItem)) (index : ℕ) → (IsExported (map world_entry es) q → ⊥) → IsTrue false ↔ IsExported (drop (index + 1) (map world_entry es)) q
unfolding IsExported
after_none q es index none = (
  (λ t. absurd (let bad : ⊥ = cc t in bad)),
  (λ h. absurd (none (
      let keys : entry_keys (drop (index + 1) (map world_entry es)) ≡ drop (index + 1) (entry_keys (map world_entry es)) = sym (drop-map (λ (x : KeyView × ItemView). x.0) (index + 1) (map world_entry es)) in
      let p = index_after (entry_keys (map world_entry es)) (index + 1) q (subst (λ (z : List KeyView). Contains z q) keys h) in
      (p.0, p.2, p.3)))),
)

module _ (r : ResolveView) (i : ℕ) (external : Option (List ℕ)) where
  -- an interface depends on none of these exports where none of what it depends on is one
  pub none_exported : (later : Entries) → All (λ d. ¬ IsExported later (interface_key d)) (direct_dependencies r i) → All (λ (x : KeyView × ItemView). ¬ DependsOn r (interface_item i external) x.0) later
  unfolding IsExported
  none_exported later h = λ k d small. depends (get_or later k d).0 (key_there k d small)
    where
      key_there : (k : ℕ) (d : KeyView × ItemView) → k < length later → Contains (entry_keys later) (get_or later k d).0
      key_there k d small = subst (λ (z : KeyView). Contains (entry_keys later) z) (get_or-map (λ (x : KeyView × ItemView). x.0) later k d d.0 small)
          (Contains-get_or (entry_keys later) k d.0 (omega (arith, small, length-map later (λ (x : KeyView × ItemView). x.0))))

      depends : (key : KeyView) → Contains (entry_keys later) key → DependsOn r (interface_item i external) key → ⊥
      depends (plain_key n) there bad = bad
      depends (interface_key d) there on = All-contains (λ d. ¬ Contains (entry_keys later) (interface_key d)) (direct_dependencies r i) d h on there

  pub none_depended : (later : Entries) → All (λ (x : KeyView × ItemView). ¬ DependsOn r (interface_item i external) x.0) later → All (λ d. ¬ IsExported later (interface_key d)) (direct_dependencies r i)
  unfolding IsExported
  none_depended later h = λ k d small there.
      let on : Contains (direct_dependencies r i) (get_or (direct_dependencies r i) k d) = Contains-get_or (direct_dependencies r i) k d small in
      let p = contains_mapped (λ (x : KeyView × ItemView). x.0) later (interface_key (get_or (direct_dependencies r i) k d)) there in
      All-contains (λ (x : KeyView × ItemView). ¬ DependsOn r (interface_item i external) x.0) later p.0 h p.1 (subst (DependsOn r (interface_item i external)) (sym p.2) on)
