-- Exports gone through one after another: each interface after those on which it depends.
use Rattle.std.proofs.Common.{◌≡◌, ◌≢◌, ◌↔◌, ℕ, List, [], ◌∷◌, ◌++◌, Bool, true, false, cond, Option, Some, None, is_some, map, All, AllPairs, refl, sym, ap}
use Rattle.std.proofs.Common.{◌∙◌, subst, inl, inr, append-nil, append_assoc}
use Rattle.std.specs.Prelude.{◌==◌, if◌then◌else◌, nat_eq, slice_get}
use Rattle.std.specs.List.{Contains, cons_option, filter_map}
use Rattle.std.specs.Option.{IsSome, option_and_then, option_map_or}
use Rattle.std.proofs.lemmas.Bool.Decides.{eqb_tells}
use Rattle.std.proofs.lemmas.List.Elements.{All-contains, Contains-append_left, Contains-append_right, Contains-append_cases, Contains-push, Contains-push_cases}
use Rattle.std.proofs.lemmas.List.Elements.{filter_map-append}
use Rattle.std.proofs.lemmas.Option.{same_Some}
use Rattle.wc_resolve.specs.declared.worlds.WorldItem.{WorldItem}
use Rattle.wc_resolve.specs.declared.worlds.WorldKey.{WorldKey}
use Rattle.wc_resolve.specs.Dependencies.{aliased_at, another_than, dependencies_in, dependency, direct_dependencies, interface_owning}
use Rattle.wc_resolve.specs.Ranges.{AreIdsInRange, IsEntryIn, IsItemIn, IsWorldIn}
use Rattle.wc_resolve.specs.Views.{InterfaceView, ItemView, KeyView, WorldView, item_view, function_item, interface_item, interface_key, plain_key, type_item}
use Rattle.wc_resolve.specs.Views.{world_entry}
use Rattle.wc_resolve.specs.WellFormed.{HasMatchingKeys, IsMatchingKey, KeysMatch}
use Rattle.wc_resolve.proofs.WellFormedLemmas.{all_get}
use Rattle.wc_resolve.specs.Kinds.{ResolveView}
use Rattle.wc_resolve.proofs.KeyLemmas.{nat_from}
use Rattle.wc_maps.proofs.ListLemmas.{contains_cons, contains_head, contains_none, contains_tail}
use Rattle.wc_encoder.specs.Dependencies.{AreDependenciesBefore, AreItemsIn, DependsOn}
use Rattle.wc_encoder.specs.Distinct.{exported_interfaces, item_interface}
use Rattle.wc_encoder.specs.EncoderParts.{EncoderView, world_exports}
use Rattle.wc_adapters.specs.Entries.{Entries}
use Rattle.wc_maps.proofs.PairLemmas.{pairs_head, pairs_tail}
use Rattle.wc_names.specs.Keys.{item_under}
use Rattle.wc_names.proofs.MeaningRangeLemmas.{worlds_match}
use Rattle.wc_world.specs.Used.{HasUsedSet, HasUsedSets, IsReady, IsUsedSet, UsedView, is_exported_itself}
use Rattle.wc_resolve.proofs.WellFormedLemmas.{exports_in, worlds_in}
use Rattle.wc_world.proofs.UsedLemmas.{filter_from}

-- the interfaces of one export more
interfaces_more : (some : Entries) (e : KeyView × ItemView) → exported_interfaces (some ++ e ∷ []) ≡ exported_interfaces some ++ exported_interfaces (e ∷ [])
interfaces_more some e = filter_map-append (λ (x : KeyView × ItemView). item_interface x.1) some (e ∷ [])

-- an export that is no interface adds none
pub sets_same : (r : ResolveView) (exports some : Entries) (sets : UsedView) (e : KeyView × ItemView) → item_interface e.1 ≡ None
    → HasUsedSets r exports some sets → HasUsedSets r exports (some ++ e ∷ []) sets
sets_same r exports some sets e none h =
    let same : exported_interfaces (some ++ e ∷ []) ≡ exported_interfaces some = interfaces_more some e
    ∙ (ap (λ o. exported_interfaces some ++ cons_option o []) none ∙ append-nil (exported_interfaces some)) in
    record { exported = λ i. subst (λ z. IsSome (sets i) ↔ Contains z i) (sym same) (h.exported i); used = h.used }

-- an interface adds its own
module _ (r : ResolveView) (exports some : Entries) (old new : UsedView) (k : KeyView) (i : ℕ) (external : Option (List ℕ)) (test : ℕ → Bool)
    (put : (j : ℕ) → new j ≡ cond (i == j) (Some test) (old j)) (used : IsUsedSet r exports i test) (h : HasUsedSets r exports some old) where
  at_own : (j : ℕ) → i ≡ j → new j ≡ Some test
  at_own j same = elim (eqb_tells i j) [ inl is ↦ put j ∙ ap (λ b. cond b (Some test) (old j)) is.0 | inr other ↦ absurd (other.1 same) ]

  at_other : (j : ℕ) → i ≢ j → new j ≡ old j
  at_other j differ = elim (eqb_tells i j) [ inl is ↦ absurd (differ is.1) | inr other ↦ put j ∙ ap (λ b. cond b (Some test) (old j)) other.0 ]

  there : (j : ℕ) → IsSome (new j) ↔ Contains (exported_interfaces some ++ i ∷ []) j
  there j = elim (eqb_tells i j) [
    | inl is ↦ (λ _. subst (Contains (exported_interfaces some ++ i ∷ [])) is.1 (Contains-push (exported_interfaces some) i), λ _. ap is_some (at_own j is.1))
    | inr other ↦ (
      λ t. Contains-append_left (exported_interfaces some) (i ∷ []) j ((h.exported j).0 (subst IsSome (at_other j other.1) t)),
      λ t. subst IsSome (sym (at_other j other.1))
          ((h.exported j).1 (elim (Contains-push_cases (exported_interfaces some) i j t) [ inl before ↦ before | inr same ↦ absurd (other.1 same) ])),
    )
  ]

  pub sets_with : HasUsedSets r exports (some ++ (k, interface_item i external) ∷ []) new
  sets_with = record {
    exported = λ j. subst (λ z. IsSome (new j) ↔ Contains z j) (sym (interfaces_more some (k, interface_item i external))) (there j);
    used = λ j t is. elim (eqb_tells i j) [
      | inl same ↦ subst (λ z. IsUsedSet r exports z t) same.1 (subst (IsUsedSet r exports i) (same_Some _ _ (sym (at_own j same.1) ∙ is)) used)
      | inr other ↦ h.used j t (sym (at_other j other.1) ∙ is)
    ];
  }

-- an entry under an interface's id
found_here : (d j : ℕ) (item : ItemView) (es : Entries) (b : Bool) → nat_eq d j ≡ b
    → (is_some (item_under es (interface_key d)) ≡ true → (x : ItemView) × Contains es (interface_key d, x))
    → is_some (cond b (Some item) (item_under es (interface_key d))) ≡ true
    → (x : ItemView) × Contains ((interface_key j, item) ∷ es) (interface_key d, x)
found_here d j item es true is rest h =
    (item, subst (λ z. Contains ((interface_key j, item) ∷ es) (interface_key z, item)) (sym (nat_from d j is)) (contains_head es (interface_key j, item)))
found_here d j item es false is rest h = let later = rest h in (later.0, contains_tail (interface_key j, item) es (interface_key d, later.0) later.1)

entry_found : (es : Entries) (d : ℕ) → is_some (item_under es (interface_key d)) ≡ true → (item : ItemView) × Contains es (interface_key d, item)
entry_found [] d h = absurd (let bad : ⊥ = cc h in bad)
entry_found ((plain_key n, item) ∷ es) d h = let later = entry_found es d h in
    (later.0, contains_tail (plain_key n, item) es (interface_key d, later.0) later.1)
entry_found ((interface_key j, item) ∷ es) d h = found_here d j item es (nat_eq d j) refl (entry_found es d) h

-- no interface depends directly on itself
none_listed : (f : ℕ → Option ℕ) (i : ℕ) (xs : List ℕ) → ((x : ℕ) → f x ≢ Some i) → Contains (filter_map f xs) i → ⊥
none_listed f i [] none h = contains_none i h
none_listed f i (x ∷ xs) none h = at (f x) refl h (none_listed f i xs none) where
  at : (o : Option ℕ) → f x ≡ o → Contains (cons_option o (filter_map f xs)) i → (Contains (filter_map f xs) i → ⊥) → ⊥
  at None is h rest = rest h
  at (Some k) is h rest = elim (contains_cons k (filter_map f xs) i h) [ inl same ↦ none x (is ∙ ap Some same) | inr later ↦ rest later ]

another : (i k : ℕ) (b : Bool) → (k == i) ≡ b → (if b then None else Some k) ≢ Some i
another i k true is h = absurd (let bad : ⊥ = cc h in bad)
another i k false is h = elim (eqb_tells k i) [
  | inl same ↦ absurd (let e : true ≡ false = sym same.0 ∙ is in let bad : ⊥ = cc e in bad)
  | inr other ↦ other.1 (cc h)
]

not_itself : (i : ℕ) (o : Option ℕ) → option_and_then (another_than i) o ≢ Some i
not_itself i None h = absurd (let bad : ⊥ = cc h in bad)
not_itself i (Some k) h = another i k (k == i) refl h

depends_not : (r : ResolveView) (i : ℕ) (o : Option InterfaceView) → Contains (option_map_or (λ (v : InterfaceView). dependencies_in r i v) o []) i → ⊥
depends_not r i None h = contains_none i h
depends_not r i (Some v) h = none_listed (dependency r i) i (map (λ e. e.1) v.types)
    (λ t. not_itself i (option_and_then (interface_owning r) (aliased_at r t))) h

-- what holds of all pairs holds of one with all after it
pairs_after : {X : Type 0} (R : X → X → Type 0) (passed rest : List X) (e : X) → AllPairs R (passed ++ e ∷ rest) → All (R e) rest
pairs_after R [] rest e h = pairs_head R e rest h
pairs_after R (x ∷ passed) rest e h = pairs_after R passed rest e (pairs_tail R x (passed ++ e ∷ rest) h)

option_here : (o : Option ℕ) (is : List ℕ) (i : ℕ) → o ≡ Some i → Contains (cons_option o is) i
option_here (Some j) is i same = subst (λ z. Contains (z ∷ is) i) (let e : i ≡ j = cc (sym same) in e) (contains_head is i)
option_here None is i same = absurd (let bad : ⊥ = cc same in bad)

option_later : (o : Option ℕ) (is : List ℕ) (i : ℕ) → Contains is i → Contains (cons_option o is) i
option_later (Some j) is i c = contains_tail j is i c
option_later None is i c = c

listed_interface : (some : Entries) (k : KeyView) (i : ℕ) (external : Option (List ℕ)) → Contains some (k, interface_item i external)
    → Contains (exported_interfaces some) i
listed_interface [] k i external h = absurd (contains_none (k, interface_item i external) h)
listed_interface (e ∷ some) k i external h =
    elim (contains_cons e some (k, interface_item i external) h) [
      | inl same ↦ option_here (item_interface e.1) (exported_interfaces some) i (ap (λ (z : KeyView × ItemView). item_interface z.1) same)
      | inr rest ↦ option_later (item_interface e.1) (exported_interfaces some) i (listed_interface some k i external rest)
    ]

module _ (r : ResolveView) (exports passed rest : Entries) (k : KeyView) (i : ℕ) (external : Option (List ℕ)) (sets : UsedView)
    (split : exports ≡ passed ++ (k, interface_item i external) ∷ rest) (before : AreDependenciesBefore r exports)
    (keyed : All (λ e. IsMatchingKey r e.0 e.1) exports) (h : HasUsedSets r exports passed sets) (d : ℕ) (depends : Contains (direct_dependencies r i) d) where
  has_set : (o : Option (ℕ → Bool)) → sets d ≡ o → IsSome o → HasUsedSet r exports sets d
  has_set None is none = absurd (let bad : ⊥ = cc none in bad)
  has_set (Some test) is some = (test, is, h.used d test is)

  found_before : (item : ItemView) → IsMatchingKey r (interface_key d) item → Contains passed (interface_key d, item) → HasUsedSet r exports sets d
  found_before (interface_item j other) same c =
      let there : Contains (exported_interfaces passed) j = listed_interface passed (interface_key d) j other c in
      has_set (sets d) refl ((h.exported d).1 (subst (Contains (exported_interfaces passed)) same there))
  found_before (function_item f) never c = absurd never
  found_before (type_item t) never c = absurd never

  at_itself : (item : ItemView) → IsMatchingKey r (interface_key d) item → ◌≡◌ {A = KeyView × ItemView} (k, interface_item i external)
      (interface_key d, item) → ⊥
  at_itself item match same =
      let own : interface_item i external ≡ item = ap (λ (z : KeyView × ItemView). z.1) same in
      depends_not r i (slice_get r.interfaces i)
      (subst (Contains (direct_dependencies r i)) (sym (subst (λ z. IsMatchingKey r (interface_key d) z) (sym own) match)) depends)

  none_after : (item : ItemView) → Contains rest (interface_key d, item) → ⊥
  none_after item c = All-contains (λ later. ¬ DependsOn r (interface_item i external) later.0) rest (interface_key d, item)
      (pairs_after (λ (x later : KeyView × ItemView). ¬ DependsOn r x.1 later.0) passed rest (k, interface_item i external)
      (subst (λ z. AreDependenciesBefore r z) split before)) c depends

  set_there : is_exported_itself exports d ≡ true → HasUsedSet r exports sets d
  set_there is =
      let found = entry_found exports d is in
      let match : IsMatchingKey r (interface_key d) found.0 = All-contains (λ e. IsMatchingKey r e.0 e.1) exports (interface_key d, found.0) keyed found.1 in
      elim (Contains-append_cases passed ((k, interface_item i external) ∷ rest) (interface_key d, found.0)
      (subst (λ z. Contains z (interface_key d, found.0)) split found.1)) [
        | inl c ↦ found_before found.0 match c
        | inr c ↦ elim (contains_cons (k, interface_item i external) rest (interface_key d, found.0) c) [
          | inl same ↦
              absurd (at_itself found.0 match same)
          | inr later ↦ absurd (none_after found.0 later)
        ]
      ]

-- what the next export depends on has its sets
pub ready_next : (r : ResolveView) (exports passed rest : Entries) (e : KeyView × ItemView) (sets : UsedView) → exports ≡ passed ++ e ∷ rest
    → AreDependenciesBefore r exports → All (λ e. IsMatchingKey r e.0 e.1) exports
    → HasUsedSets r exports passed sets → IsReady r exports sets e.1
ready_next r exports passed rest (k, interface_item i external) sets split before keyed h = λ d c.
    let from = filter_from (is_exported_itself exports) (direct_dependencies r i) d c in
    set_there r exports passed rest k i external sets split before keyed h d from.0 from.1
ready_next r exports passed rest (k, function_item f) sets split before keyed h = tt
ready_next r exports passed rest (k, type_item t) sets split before keyed h = tt

-- exports that are gone through
pub record UsedWalk (r : ResolveView) (all left : List (WorldKey × WorldItem)) (sets : UsedView) : Type 0 where
  pub passed : Entries
  pub split : map world_entry all ≡ passed ++ map world_entry left
  pub has : HasUsedSets r (map world_entry all) passed sets

pub walk_start : (r : ResolveView) (all left : List (WorldKey × WorldItem)) (sets : UsedView) → left ≡ all → ((i : ℕ) → sets i ≡ None)
    → UsedWalk r all left sets
walk_start r all left sets is none = record {
  passed = [];
  split = ap (map world_entry) (sym is);
  has = record {
    exported = λ i. (λ h. absurd (let e : IsSome {T = ℕ → Bool} None = subst IsSome (none i) h in let bad : ⊥ = cc e in bad), λ h. absurd (contains_none i h));
    used = λ i test h. absurd (let e : None ≡ Some test = sym (none i) ∙ h in let bad : ⊥ = cc e in bad);
  };
}

pub walk_ready : (r : ResolveView) (all left rest : List (WorldKey × WorldItem)) (e : WorldKey × WorldItem) (sets : UsedView) → left ≡ e ∷ rest
    → AreDependenciesBefore r (map world_entry all) → All (λ e. IsMatchingKey r e.0 e.1) (map world_entry all)
    → UsedWalk r all left sets → IsReady r (map world_entry all) sets (item_view e.1)
walk_ready r all left rest e sets next before keyed w =
    ready_next r (map world_entry all) w.passed (map world_entry rest) (world_entry e) sets
    (w.split ∙ ap (λ z. w.passed ++ map world_entry z) next) before keyed w.has

pub walk_next : (r : ResolveView) (all left rest : List (WorldKey × WorldItem)) (e : WorldKey × WorldItem) (old new : UsedView) → left ≡ e ∷ rest
    → (w : UsedWalk r all left old) → HasUsedSets r (map world_entry all) (w.passed ++ world_entry e ∷ []) new → UsedWalk r all rest new
walk_next r all left rest e old new next w h = record {
  passed = w.passed ++ world_entry e ∷ [];
  split = w.split ∙ (ap (λ z. w.passed ++ map world_entry z) next ∙ sym (append_assoc w.passed (world_entry e ∷ []) (map world_entry rest)));
  has = h;
}

pub walk_end : (r : ResolveView) (all left : List (WorldKey × WorldItem)) (sets : UsedView) → left ≡ [] → UsedWalk r all left sets
    → HasUsedSets r (map world_entry all) (map world_entry all) sets
walk_end r all left sets none w =
    subst (λ z. HasUsedSets r (map world_entry all) z sets) (sym (w.split ∙ (ap (λ z. w.passed ++ map world_entry z) none ∙ append-nil w.passed))) w.has

pub walk_in : (r : ResolveView) (all left rest : List (WorldKey × WorldItem)) (e : WorldKey × WorldItem) (sets : UsedView) → left ≡ e ∷ rest
    → AreItemsIn r (map world_entry all) → UsedWalk r all left sets → IsItemIn r (item_view e.1)
walk_in r all left rest e sets next within w =
    let split : map world_entry all ≡ w.passed ++ world_entry e ∷ map world_entry rest = w.split ∙ ap (λ z. w.passed ++ map world_entry z) next in
    All-contains (λ x. IsItemIn r x.1) (map world_entry all) (world_entry e) within
    (subst (λ z. Contains z (world_entry e)) (sym split) (Contains-append_right w.passed (world_entry e ∷ map world_entry rest) (world_entry e)
    (contains_head (map world_entry rest) (world_entry e))))

-- the exports of a world of a well-formed `Resolve` are there, under keys of theirs
pub entries_in : (r : ResolveView) (es : Entries) → All (IsEntryIn r) es → AreItemsIn r es
unfolding IsEntryIn
entries_in r es h = λ i d small. (h i d small).1

matching : (r : ResolveView) (w : WorldView) → HasMatchingKeys r w → All (λ e. IsMatchingKey r e.0 e.1) w.exports
unfolding HasMatchingKeys
matching r w h = h.1

pub exports_there : (r : ResolveView) → AreIdsInRange r → (index : ℕ) (w : WorldView) → slice_get r.worlds index ≡ Some w → AreItemsIn r w.exports
exports_there r h index w at = entries_in r w.exports (exports_in r w (all_get (IsWorldIn r) r.worlds index w (worlds_in r h) at))

pub exports_keyed : (r : ResolveView) → KeysMatch r → (index : ℕ) (w : WorldView) → slice_get r.worlds index ≡ Some w
    → All (λ e. IsMatchingKey r e.0 e.1) w.exports
exports_keyed r h index w at = matching r w (all_get (HasMatchingKeys r) r.worlds index w (worlds_match r h) at)

-- what the world of an encoder exports
pub exports_are : (e : EncoderView) (r : ResolveView) (index : ℕ) (w : WorldView) → r ≡ e.resolve → index ≡ e.world → slice_get r.worlds index ≡ Some w
    → world_exports e ≡ w.exports
exports_are e r index w same is at =
    let own : slice_get e.resolve.worlds e.world ≡ Some w = subst (λ z. slice_get e.resolve.worlds z ≡ Some w) is
    (subst (λ (z : ResolveView). slice_get z.worlds index ≡ Some w) same at) in
    ap (λ o. option_map_or (λ (v : WorldView). v.exports) o []) own
