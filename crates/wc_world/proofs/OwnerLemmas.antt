-- Types in groups by the interfaces that own them, one type after another.
use Rattle.std.proofs.Common.{◌≡◌, ℕ, List, [], ◌∷◌, ◌++◌, Bool, true, false, cond, ◌||◌, Option, Some, None, filter, map, refl, sym, ap, ◌∙◌, subst, inl, inr}
use Rattle.std.proofs.Common.{append-nil}
use Rattle.std.specs.Prelude.{◌==◌, if◌then◌else◌}
use Rattle.std.specs.List.{cons_option, filter_map}
use Rattle.std.specs.Map.{lookup, set_value}
use Rattle.std.specs.Option.{option_map_or}
use Rattle.std.proofs.lemmas.Bool.{eqb-true, or_parts}
use Rattle.std.proofs.lemmas.Bool.Decides.{eqb_tells}
use Rattle.std.proofs.lemmas.Cmp.{nat_eq_equiv}
use Rattle.std.proofs.lemmas.List.Elements.{filter-append, filter_map-append}
use Rattle.std.proofs.lemmas.List.Folds.{list_any-append}
use Rattle.std.proofs.lemmas.Map.Views.{Contains-from_any, list_any-from_Contains}
use Rattle.indexmap.specs.IndexMap.{insert_entry}
use Rattle.indexmap.specs.IndexSet.{IndexSet}
use Rattle.wc_resolve.specs.declared.ids.InterfaceId.{InterfaceId}
use Rattle.wc_resolve.specs.declared.ids.TypeId.{TypeId}
use Rattle.wc_resolve.specs.Dependencies.{interface_owning}
use Rattle.wc_resolve.specs.Live.{list_union, with_live}
use Rattle.wc_resolve.specs.Roots.{indices}
use Rattle.wc_resolve.specs.Kinds.{ResolveView}
use Rattle.wc_resolve.proofs.KeyLemmas.{nat_from}
use Rattle.wc_resolve.proofs.ListUnionLemmas.{list_union_append, list_union_has, with_new}
use Rattle.wc_world.specs.Private.ImportedItems.{is_in}
use Rattle.wc_world.specs.Live.{IsWithoutRepeats, by_owner, is_owned_by}
use Rattle.wc_world.specs.Used.{same_interface}
use Rattle.wc_world.proofs.UsedLemmas.{turned}

pub equal_itself : (i : ℕ) → (i == i) ≡ true
equal_itself i = elim (eqb_tells i i) [ inl same ↦ same.0 | inr other ↦ absurd (other.1 refl) ]

-- lists without repeats

in_push : (ys : List ℕ) (x y : ℕ) → is_in ys y ≡ false → (y == x) ≡ false → is_in (ys ++ x ∷ []) y ≡ false
in_push ys x y old other = list_any-append (λ z. y == z) ys (x ∷ []) ∙ (ap (λ b. b || ((y == x) || false)) old ∙ ap (λ b. b || false) other)

repeats_push : (xs : List ℕ) (x : ℕ) → IsWithoutRepeats xs → is_in xs x ≡ false → IsWithoutRepeats (xs ++ x ∷ [])
repeats_push [] x h new = (refl, tt)
repeats_push (y ∷ ys) x h new = let parts = or_parts (x == y) (is_in ys x) new in (in_push ys x y h.0 (turned y x ∙ parts.0), repeats_push ys x h.1 parts.1)

repeats_with : (xs : List ℕ) (x : ℕ) (b : Bool) → is_in xs x ≡ b → IsWithoutRepeats xs → IsWithoutRepeats (with_live xs x)
repeats_with xs x true is h = subst IsWithoutRepeats (sym (ap (λ (b : Bool). if b then xs else xs ++ x ∷ []) is)) h
repeats_with xs x false is h = subst IsWithoutRepeats (sym (ap (λ (b : Bool). if b then xs else xs ++ x ∷ []) is)) (repeats_push xs x h is)

pub repeats_union : (live listing : List ℕ) → IsWithoutRepeats live → IsWithoutRepeats (list_union live listing)
repeats_union live [] h = h
repeats_union live (x ∷ listing) h = repeats_union (with_live live x) listing (repeats_with live x (is_in live x) refl h)

pub repeats_front : (passed rest : List ℕ) (t : ℕ) → IsWithoutRepeats (passed ++ t ∷ rest) → is_in passed t ≡ false
repeats_front [] rest t h = refl
repeats_front (y ∷ ys) rest t h =
    let parts = or_parts (is_in ys y) (is_in (t ∷ rest) y) (sym (list_any-append (λ z. y == z) ys (t ∷ rest)) ∙ h.0) in
    let own = or_parts (y == t) (is_in rest y) parts.1 in
    ap (λ b. b || is_in ys t) (turned t y ∙ own.0) ∙ repeats_front ys rest t h.1

not_listed : (xs : List ℕ) (i : ℕ) (b : Bool) → is_in xs i ≡ b → is_in (list_union [] xs) i ≡ false → is_in xs i ≡ false
not_listed xs i false is none = is
not_listed xs i true is none =
    absurd (let there : is_in (list_union [] xs) i ≡ true = list_any-from_Contains nat_eq_equiv i (list_union [] xs)
    (list_union_has [] xs i (Contains-from_any eqb-true i xs is)) in
    let e : true ≡ false = sym there ∙ none in let bad : ⊥ = cc e in bad)

-- what is left of a list does not have what the list has not
kept_out : (b : Bool) (x t : ℕ) (ys : List ℕ) → (t == x) ≡ false → is_in ys t ≡ false → is_in (cond b (x ∷ ys) ys) t ≡ false
kept_out true x t ys other none = ap (λ c. c || is_in ys t) other ∙ none
kept_out false x t ys other none = none

filter_out : (p : ℕ → Bool) (xs : List ℕ) (t : ℕ) → is_in xs t ≡ false → is_in (filter p xs) t ≡ false
filter_out p [] t none = refl
filter_out p (x ∷ xs) t none = let parts = or_parts (t == x) (is_in xs t) none in kept_out (p x) x t (filter p xs) parts.0 (filter_out p xs t parts.1)

-- a type put into the group of its owner; a new group is last
abbrev pub with_owned : List (ℕ × List ℕ) → ℕ → ℕ → List (ℕ × List ℕ)
with_owned [] i t = (i, t ∷ []) ∷ []
with_owned (g ∷ gs) i t = cond (i == g.0) ((g.0, with_live g.1 t) ∷ gs) (g ∷ with_owned gs i t)

abbrev grouped : (ℕ → List ℕ) → List ℕ → List (ℕ × List ℕ)
grouped f ks = map (λ (k : ℕ). (k, f k)) ks

same_groups : (f g : ℕ → List ℕ) (ks : List ℕ) → ((k : ℕ) → g k ≡ f k) → grouped g ks ≡ grouped f ks
same_groups f g [] same = refl
same_groups f g (k ∷ ks) same = ap (λ z. (k, z) ∷ grouped g ks) (same k) ∙ ap (λ z. (k, f k) ∷ z) (same_groups f g ks same)

module _ (f g : ℕ → List ℕ) (i t : ℕ) (others : (k : ℕ) → (i == k) ≡ false → g k ≡ f k) where
  other_groups : (ks : List ℕ) → is_in ks i ≡ false → grouped g ks ≡ grouped f ks
  other_groups [] none = refl
  other_groups (k ∷ ks) none =
      let parts = or_parts (i == k) (is_in ks i) none in
      ap (λ z. (k, z) ∷ grouped g ks) (others k parts.0) ∙ ap (λ z. (k, f k) ∷ z) (other_groups ks parts.1)

  new_group : g i ≡ t ∷ [] → (ks : List ℕ) → is_in ks i ≡ false → with_owned (grouped f ks) i t ≡ grouped g (ks ++ i ∷ [])
  new_group own [] none = ap (λ z. (i, z) ∷ []) (sym own)
  new_group own (k ∷ ks) none =
      let parts = or_parts (i == k) (is_in ks i) none in
      ap (λ b. cond b ((k, with_live (f k) t) ∷ grouped f ks) ((k, f k) ∷ with_owned (grouped f ks) i t)) parts.0
      ∙ (ap (λ z. (k, f k) ∷ z) (new_group own ks parts.1) ∙ ap (λ z. (k, z) ∷ grouped g (ks ++ i ∷ [])) (sym (others k parts.0)))

  old_at : g i ≡ with_live (f i) t → (k : ℕ) (ks : List ℕ) (b : Bool) → (i == k) ≡ b → is_in ks k ≡ false → (b || is_in ks i) ≡ true
      → (is_in ks i ≡ true → with_owned (grouped f ks) i t ≡ grouped g ks)
      → cond b ((k, with_live (f k) t) ∷ grouped f ks) ((k, f k) ∷ with_owned (grouped f ks) i t) ≡ grouped g (k ∷ ks)
  old_at own k ks true is once there rest =
      let same : i ≡ k = nat_from i k is in
      let at_k : g k ≡ with_live (f k) t = subst (λ z. g z ≡ with_live (f z) t) same own in
      let none : is_in ks i ≡ false = subst (λ z. is_in ks z ≡ false) (sym same) once in
      ap (λ z. (k, z) ∷ grouped f ks) (sym at_k) ∙ ap (λ z. (k, g k) ∷ z) (sym (other_groups ks none))
  old_at own k ks false is once there rest = ap (λ z. (k, f k) ∷ z) (rest there) ∙ ap (λ z. (k, z) ∷ grouped g ks) (sym (others k is))

  old_group : g i ≡ with_live (f i) t → (ks : List ℕ) → IsWithoutRepeats ks → is_in ks i ≡ true → with_owned (grouped f ks) i t ≡ grouped g ks
  old_group own [] h there = absurd (let bad : ⊥ = cc there in bad)
  old_group own (k ∷ ks) h there = old_at own k ks (i == k) refl h.0 there (old_group own ks h.1)

-- where no type of an owner was passed, its group has none
unowned_at : (r : ResolveView) (i x : ℕ) (xs : List ℕ) (o : Option ℕ) → is_in (cons_option o (filter_map (interface_owning r) xs)) i ≡ false
    → (is_in (filter_map (interface_owning r) xs) i ≡ false → filter (is_owned_by r i) xs ≡ [])
    → cond (option_map_or (λ (k : ℕ). k == i) o false) (x ∷ filter (is_owned_by r i) xs) (filter (is_owned_by r i) xs) ≡ []
unowned_at r i x xs None none rest = rest none
unowned_at r i x xs (Some j) none rest =
    let parts = or_parts (i == j) (is_in (filter_map (interface_owning r) xs) i) none in
    ap (λ b. cond b (x ∷ filter (is_owned_by r i) xs) (filter (is_owned_by r i) xs)) (turned j i ∙ parts.0) ∙ rest parts.1

unowned : (r : ResolveView) (i : ℕ) (xs : List ℕ) → is_in (filter_map (interface_owning r) xs) i ≡ false → filter (is_owned_by r i) xs ≡ []
unowned r i [] none = refl
unowned r i (x ∷ xs) none = unowned_at r i x xs (interface_owning r x) none (unowned r i xs)

-- one type more
module _ (r : ResolveView) (passed : List ℕ) (t : ℕ) where
  group_more : (k : ℕ) (b : Bool) → is_owned_by r k t ≡ b → filter (is_owned_by r k) (passed ++ t ∷ []) ≡ filter (is_owned_by r k) passed ++ cond b (t ∷ []) []
  group_more k b is = filter-append (is_owned_by r k) passed (t ∷ []) ∙ ap (λ c. filter (is_owned_by r k) passed ++ cond c (t ∷ []) []) is

  group_same : (k : ℕ) → is_owned_by r k t ≡ false → filter (is_owned_by r k) (passed ++ t ∷ []) ≡ filter (is_owned_by r k) passed
  group_same k other = group_more k false other ∙ append-nil (filter (is_owned_by r k) passed)

  owners_more : (o : Option ℕ) → interface_owning r t ≡ o → list_union [] (filter_map (interface_owning r) (passed ++ t ∷ []))
      ≡ list_union (list_union [] (filter_map (interface_owning r) passed)) (cons_option o [])
  owners_more o is =
      ap (list_union []) (filter_map-append (interface_owning r) passed (t ∷ []))
      ∙ (list_union_append [] (filter_map (interface_owning r) passed) (cons_option (interface_owning r t) [])
      ∙ ap (λ z. list_union (list_union [] (filter_map (interface_owning r) passed)) (cons_option z [])) is)

  pub owned_none : interface_owning r t ≡ None → by_owner r (passed ++ t ∷ []) ≡ by_owner r passed
  owned_none none =
      ap (grouped (λ k. filter (is_owned_by r k) (passed ++ t ∷ []))) (owners_more None none)
      ∙ same_groups (λ k. filter (is_owned_by r k) passed) (λ k. filter (is_owned_by r k) (passed ++ t ∷ []))
      (list_union [] (filter_map (interface_owning r) passed))
      (λ k. group_same k (ap (λ o. option_map_or (λ (j : ℕ). j == k) o false) none))

  module _ (i : ℕ) (is : interface_owning r t ≡ Some i) (new : is_in passed t ≡ false) where
    owned : (k : ℕ) → is_owned_by r k t ≡ (i == k)
    owned k = ap (λ o. option_map_or (λ (j : ℕ). j == k) o false) is

    other_owner : (k : ℕ) → (i == k) ≡ false → filter (is_owned_by r k) (passed ++ t ∷ []) ≡ filter (is_owned_by r k) passed
    other_owner k other = group_same k (owned k ∙ other)

    group_pushed : filter (is_owned_by r i) (passed ++ t ∷ []) ≡ filter (is_owned_by r i) passed ++ t ∷ []
    group_pushed = group_more i true (owned i ∙ equal_itself i)

    owned_at : (b : Bool) → is_in (list_union [] (filter_map (interface_owning r) passed)) i ≡ b
        → with_owned (by_owner r passed) i t ≡ by_owner r (passed ++ t ∷ [])
    owned_at true there =
        let owners : List ℕ = list_union [] (filter_map (interface_owning r) passed) in
        let same : with_live owners i ≡ owners = ap (λ (b : Bool). if b then owners else owners ++ i ∷ []) there in
        old_group (λ k. filter (is_owned_by r k) passed) (λ k. filter (is_owned_by r k) (passed ++ t ∷ [])) i t other_owner
        (group_pushed ∙ sym (with_new (filter (is_owned_by r i) passed) t (filter_out (is_owned_by r i) passed t new))) owners
        (repeats_union [] (filter_map (interface_owning r) passed) tt) there
        ∙ ap (grouped (λ k. filter (is_owned_by r k) (passed ++ t ∷ []))) (sym (owners_more (Some i) is ∙ same))
    owned_at false none =
        let owners : List ℕ = list_union [] (filter_map (interface_owning r) passed) in
        let first : filter (is_owned_by r i) passed ≡ [] =
        unowned r i passed (not_listed (filter_map (interface_owning r) passed) i (is_in (filter_map (interface_owning r) passed) i) refl none) in
        new_group (λ k. filter (is_owned_by r k) passed) (λ k. filter (is_owned_by r k) (passed ++ t ∷ [])) i t other_owner
        (group_pushed ∙ ap (λ z. z ++ t ∷ []) first) owners none
        ∙ ap (grouped (λ k. filter (is_owned_by r k) (passed ++ t ∷ []))) (sym (owners_more (Some i) is ∙ with_new owners i none))

    pub owned_more : with_owned (by_owner r passed) i t ≡ by_owner r (passed ++ t ∷ [])
    owned_more = owned_at (is_in (list_union [] (filter_map (interface_owning r) passed)) i) refl

-- groups as a map has them
abbrev pub group_view : {S : Type 0} → InterfaceId × IndexSet TypeId S → ℕ × List ℕ
group_view e = (e.0.0, indices e.1.keys)

module _ {S : Type 0} (id : InterfaceId) (t : ℕ) (new : IndexSet TypeId S) where
  put_at : (e : InterfaceId × IndexSet TypeId S) (es : List (InterfaceId × IndexSet TypeId S)) (old : IndexSet TypeId S) (b : Bool)
      → indices new.keys ≡ with_live (indices old.keys) t → cond b (Some e.1) (lookup (same_interface id) es) ≡ Some old
      → (lookup (same_interface id) es ≡ Some old → map group_view (set_value (same_interface id) es new) ≡ with_owned (map group_view es) id.0 t)
      → map group_view (cond b ((e.0, new) ∷ es) (e ∷ set_value (same_interface id) es new))
      ≡ cond b ((e.0.0, with_live (indices e.1.keys) t) ∷ map group_view es) (group_view e ∷ with_owned (map group_view es) id.0 t)
  put_at e es old true put at rest =
      let same : old ≡ e.1 = cc (sym at) in
      ap (λ z. (e.0.0, z) ∷ map group_view es) (put ∙ ap (λ z. with_live (indices z.keys) t) same)
  put_at e es old false put at rest = ap (λ z. group_view e ∷ z) (rest at)

  pub group_put : (es : List (InterfaceId × IndexSet TypeId S)) (old : IndexSet TypeId S) → indices new.keys ≡ with_live (indices old.keys) t
      → lookup (same_interface id) es ≡ Some old
      → map group_view (set_value (same_interface id) es new) ≡ with_owned (map group_view es) id.0 t
  group_put [] old put at = absurd (let bad : ⊥ = cc at in bad)
  group_put (e ∷ es) old put at = put_at e es old (id.0 == e.0.0) put at (group_put es old put)

  added_at : (e : InterfaceId × IndexSet TypeId S) (es : List (InterfaceId × IndexSet TypeId S)) (b : Bool)
      → cond b (Some e.1) (lookup (same_interface id) es) ≡ None
      → (lookup (same_interface id) es ≡ None → map group_view (insert_entry same_interface es id new) ≡ with_owned (map group_view es) id.0 t)
      → map group_view (cond b ((e.0, new) ∷ es) (e ∷ insert_entry same_interface es id new))
      ≡ cond b ((e.0.0, with_live (indices e.1.keys) t) ∷ map group_view es) (group_view e ∷ with_owned (map group_view es) id.0 t)
  added_at e es true at rest = absurd (let bad : ⊥ = cc at in bad)
  added_at e es false at rest = ap (λ z. group_view e ∷ z) (rest at)

  pub group_added : (es : List (InterfaceId × IndexSet TypeId S)) → indices new.keys ≡ t ∷ [] → lookup (same_interface id) es ≡ None
      → map group_view (insert_entry same_interface es id new) ≡ with_owned (map group_view es) id.0 t
  group_added [] own at = ap (λ z. (id.0, z) ∷ []) own
  group_added (e ∷ es) own at = added_at e es (id.0 == e.0.0) at (group_added es own)
