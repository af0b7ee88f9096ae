-- The loop that adds live types: its state, and its length.
use Rattle.std.proofs.Common.{◌≡◌, Some, Result, Ok, Err, Bool, true, false, ℕ, ◌+◌, ◌*◌, ◌<◌, List, [], ◌∷◌, ◌++◌, map, reverse, length, refl}
use Rattle.std.proofs.Common.{sym, ap, ◌∙◌, subst, inl, inr, arith, length-append, append-nil}
use Rattle.std.specs.List.{flat_map, slice_get, Contains, list_any}
use Rattle.std.specs.Prelude.{◌==◌, ◌||◌}
use Rattle.std.proofs.lemmas.Bool.{cases_Bool}
use Rattle.indexmap.specs.IndexSet.{insert_key}
use Rattle.std.proofs.lemmas.List.{map-append, reverse-append, reverse-reverse}
use Rattle.std.proofs.lemmas.List.Elements.{Contains-append_left, Contains-append_right, Contains-append_cases, Contains-push, Contains-push_cases}
use Rattle.indexmap.proofs.ReorderLemmas.{map-reverse}
use Rattle.wc_resolve.specs.declared.ids.TypeId.{TypeId}
use Rattle.wc_resolve.specs.declared.walk.TypeStep.{TypeStep}
use Rattle.wc_resolve.specs.declared.walk.TypeStep.TheVariants.{Enter, Leave}
use Rattle.wc_resolve.specs.Views.{TypeView}
use Rattle.wc_resolve.specs.Kinds.{children, referenced_indices}
use Rattle.std.specs.Option.{option_map, option_map_or}
use Rattle.std.specs.Result.{OnErr}
use Rattle.wc_resolve.specs.TypeRules.{Follows}
use Rattle.wc_resolve.specs.Roots.{id_index}
use Rattle.wc_resolve.specs.Live.{listing_rule, listing_of, listing_from, with_live, list_union, IsComplete, AddsAll, AddsSome, Keeps}
use Rattle.wc_maps.proofs.ListLemmas.{contains_none}
use Rattle.wc_resolve.proofs.ListUnionLemmas.{keeps_same, keeps_more, with_extends, list_union_extends}
use Rattle.wc_resolve.proofs.ListingLemmas.{step_index, finished, finished_extends, IsAdding, finished_enters, ready_enters, adding_skip, adding_leave}
use Rattle.wc_resolve.proofs.ListingLemmas.{adding_enter, walk_length, walk_length_append, walk_length_reverse}

-- steps are stored with the next one last
pub record IsLiveWalk (types : List TypeView) (old goal live : List ℕ) (steps : List TypeStep) : Type 0 where
  pub within : (s : TypeStep) → Contains steps s → step_index s < length types
  pub kept : Keeps old live
  pub adding : IsComplete types old → IsAdding types goal live (reverse steps)

-- the next step, at the front
next_first : (rest : List TypeStep) (s : TypeStep) → reverse (rest ++ s ∷ []) ≡ s ∷ reverse rest
next_first rest s = reverse-append rest (s ∷ [])

pub step_within : (types : List TypeView) (old goal live : List ℕ) (steps rest : List TypeStep) (s : TypeStep) → IsLiveWalk types old goal live steps
    → steps ≡ rest ++ s ∷ [] → step_index s < length types
step_within types old goal live steps rest s w e = w.within s (subst (λ (z : List TypeStep). Contains z s) (sym e) (Contains-push rest s))

rest_within : (types : List TypeView) (old goal live : List ℕ) (steps rest : List TypeStep) (s : TypeStep) → IsLiveWalk types old goal live steps
    → steps ≡ rest ++ s ∷ []
    → (t : TypeStep) → Contains rest t → step_index t < length types
rest_within types old goal live steps rest s w e t h = w.within t (subst (λ (z : List TypeStep). Contains z t) (sym e) (Contains-append_left rest (s ∷ []) t h))

facing : (types : List TypeView) (old goal live : List ℕ) (steps rest : List TypeStep) (s : TypeStep) → IsLiveWalk types old goal live steps
    → steps ≡ rest ++ s ∷ []
    → IsComplete types old → IsAdding types goal live (s ∷ reverse rest)
facing types old goal live steps rest s w e complete =
    subst (IsAdding types goal live) (ap reverse e ∙ next_first rest s) (w.adding complete)

pub walk_skip : (types : List TypeView) (old goal live : List ℕ) (steps rest : List TypeStep) (id : TypeId) → IsLiveWalk types old goal live steps
    → steps ≡ rest ++ Enter id ∷ []
    → Contains live id.0 → IsLiveWalk types old goal live rest
walk_skip types old goal live steps rest id w e h = record {
  within = rest_within types old goal live steps rest (Enter id) w e;
  kept = w.kept;
  adding = λ complete. adding_skip types goal live id (reverse rest) (facing types old goal live steps rest (Enter id) w e complete) h;
}

pub walk_leave : (types : List TypeView) (old goal live : List ℕ) (steps rest : List TypeStep) (id : TypeId) → IsLiveWalk types old goal live steps
    → steps ≡ rest ++ Leave id ∷ []
    → IsLiveWalk types old goal (with_live live id.0) rest
walk_leave types old goal live steps rest id w e = record {
  within = rest_within types old goal live steps rest (Leave id) w e;
  kept = keeps_more old live (with_live live id.0) w.kept (with_extends live id.0);
  adding = λ complete. adding_leave types goal live id (reverse rest) (facing types old goal live steps rest (Leave id) w e complete);
}

entered_first : (rest : List TypeStep) (id : TypeId) (ids : List TypeId) → reverse ((rest ++ Leave id ∷ []) ++ map Enter (reverse ids)) ≡ map Enter ids
    ++ Leave id ∷ reverse rest
entered_first rest id ids =
    let full : reverse ((rest ++ Leave id ∷ []) ++ map Enter (reverse ids)) ≡ reverse (map Enter (reverse ids)) ++ reverse (rest ++ Leave id ∷ []) =
    reverse-append (rest ++ Leave id ∷ []) (map Enter (reverse ids)) in
    let front : reverse (map Enter (reverse ids)) ≡ map Enter ids = ap reverse (map-reverse Enter ids) ∙ reverse-reverse (map Enter ids) in
    let back : reverse (rest ++ Leave id ∷ []) ≡ Leave id ∷ reverse rest = next_first rest (Leave id) in
    rw (full, front, back) refl

pub ids_within : (types : List TypeView) (ids : List TypeId) → ((c : ℕ) → Contains (map id_index ids) c → c < length types) → (s : TypeStep)
    → Contains (map Enter ids) s → step_index s < length types
ids_within types [] h s k = absurd (contains_none s k)
ids_within types (id ∷ ids) h s k =
    elim (Contains-append_cases (Enter id ∷ []) (map Enter ids) s k) [
      | inl front ↦
          (let small : id.0 < length types = h id.0 (Contains-append_left (id.0 ∷ []) (map id_index ids) id.0 (Contains-push [] id.0)) in
          elim (Contains-push_cases [] (Enter id) s front) [
            | inl none ↦ absurd (contains_none s none)
            | inr same ↦ subst (λ (z : TypeStep). step_index z < length types) same small
          ])
      | inr back ↦ ids_within types ids (λ c m. h c (Contains-append_right (id.0 ∷ []) (map id_index ids) c m)) s back
    ]

pub contains_reverse : {X : Type 0} (xs : List X) (x : X) → Contains (reverse xs) x → Contains xs x
contains_reverse [] x h = h
contains_reverse (y ∷ xs) x h =
    let split : reverse (y ∷ xs) ≡ reverse xs ++ y ∷ [] = reverse-append (y ∷ []) xs in
    elim (Contains-push_cases (reverse xs) y x (subst (λ z. Contains z x) split h)) [
      | inl back ↦ Contains-append_right (y ∷ []) xs x (contains_reverse xs x back)
      | inr same ↦ Contains-append_left (y ∷ []) xs x (subst (Contains (y ∷ [])) same (Contains-push [] y))
    ]

pub walk_start : (types : List TypeView) (old : List ℕ) (ids : List TypeId) → ((x : ℕ) → Contains (map id_index ids) x → x < length types)
    → IsLiveWalk types old (list_union old (listing_from types (map id_index ids))) old (map Enter (reverse ids))
walk_start types old ids within =
    let below : (c : ℕ) → Contains (map id_index (reverse ids)) c → c < length types =
    λ c h. within c (contains_reverse (map id_index ids) c (subst (λ (z : List ℕ). Contains z c) (map-reverse id_index ids) h)) in
    let turned : reverse (map Enter (reverse ids)) ≡ map Enter ids ++ [] = ap reverse (map-reverse Enter ids) ∙ reverse-reverse (map Enter ids)
    ∙ sym (append-nil (map Enter ids)) in
    record {
      within = ids_within types (reverse ids) below;
      kept = keeps_same old;
      adding = λ complete. subst (IsAdding types (list_union old (listing_from types (map id_index ids))) old) (sym turned) (record {
        complete = complete;
        ready = ready_enters (children types) (listing_of types) old ids [] tt;
        ends = finished_enters (listing_of types) old ids [];
      });
    }

pub walk_enter : (types : List TypeView) (old goal live : List ℕ) (steps rest : List TypeStep) (id : TypeId) (ids : List TypeId)
    → Follows listing_rule types (listing_of types)
    → ((x c : ℕ) → Contains (children types x) c → c < length types) → map id_index ids ≡ children types id.0
    → IsLiveWalk types old goal live steps → steps ≡ rest ++ Enter id ∷ [] → IsLiveWalk types old goal live ((rest ++ Leave id ∷ []) ++ map Enter (reverse ids))
walk_enter types old goal live steps rest id ids follows inside same w e =
    let small : id.0 < length types = step_within types old goal live steps rest (Enter id) w e in
    let below : (c : ℕ) → Contains (map id_index (reverse ids)) c → c < length types =
    λ c h. inside id.0 c (subst (λ (z : List ℕ). Contains z c) same
    (contains_reverse (map id_index ids) c (subst (λ (z : List ℕ). Contains z c) (map-reverse id_index ids) h))) in
    record {
      within = λ s h. elim (Contains-append_cases (rest ++ Leave id ∷ []) (map Enter (reverse ids)) s h) [
        | inl front ↦ elim (Contains-push_cases rest (Leave id) s front) [
          | inl before ↦ rest_within types old goal live steps rest (Enter id) w e s before
          | inr itself ↦ subst (λ (z : TypeStep). step_index z < length types) itself small
        ]
        | inr back ↦ ids_within types (reverse ids) below s back
      ];
      kept = w.kept;
      adding = λ complete. subst (IsAdding types goal live) (sym (entered_first rest id ids))
          (adding_enter types goal live id ids (reverse rest) follows small (inside id.0) same (facing types old goal live steps rest (Enter id) w e complete));
    }

-- what a call has added when the walk ends, and where memory ran out

pub walk_end : (types : List TypeView) (old live listing : List ℕ) (steps : List TypeStep) → IsLiveWalk types old (list_union old listing) live steps
    → steps ≡ [] → AddsAll types old live listing
walk_end types old live listing steps w e complete =
    let a : IsAdding types (list_union old listing) live [] = subst (IsAdding types (list_union old listing) live) (ap reverse e) (w.adding complete) in
    (a.complete, a.ends)

pub walk_stop : (types : List TypeView) (old live listing : List ℕ) (steps : List TypeStep) → IsLiveWalk types old (list_union old listing) live steps
    → AddsSome types old live listing
walk_stop types old live listing steps w complete =
    let a : IsAdding types (list_union old listing) live (reverse steps) = w.adding complete in
    let more : Keeps live (finished (listing_of types) live (reverse steps)) = finished_extends (listing_of types) live (reverse steps) in
    (a.complete, more.0, sym a.ends ∙ more.1)

-- the length of a walk

pub one_listed : (types : List TypeView) (x : ℕ) → Follows listing_rule types (listing_of types) → x < length types
    → length (listing_of types x) ≡ length (flat_map (listing_of types) (children types x)) + 1
one_listed types x follows small = ap length (follows x small) ∙ length-append (flat_map (listing_of types) (children types x)) (x ∷ [])

pub walk_length_leave : (types : List TypeView) (steps rest : List TypeStep) (id : TypeId) → steps ≡ rest ++ Leave id ∷ []
    → walk_length (listing_of types) rest < walk_length (listing_of types) steps
walk_length_leave types steps rest id e =
    let sum : walk_length (listing_of types) steps ≡ walk_length (listing_of types) rest + walk_length (listing_of types) (Leave id ∷ []) =
    ap (walk_length (listing_of types)) e ∙ walk_length_append (listing_of types) rest (Leave id ∷ []) in
    omega (arith, sum)

pub walk_length_skip : (types : List TypeView) (steps rest : List TypeStep) (id : TypeId) → Follows listing_rule types (listing_of types)
    → id.0 < length types → steps ≡ rest ++ Enter id ∷ []
    → walk_length (listing_of types) rest < walk_length (listing_of types) steps
walk_length_skip types steps rest id follows small e =
    let sum : walk_length (listing_of types) steps ≡ walk_length (listing_of types) rest + walk_length (listing_of types) (Enter id ∷ []) =
    ap (walk_length (listing_of types)) e ∙ walk_length_append (listing_of types) rest (Enter id ∷ []) in
    let one = one_listed types id.0 follows small in
    omega (arith, sum, one)

pub walk_length_enter : (types : List TypeView) (steps rest : List TypeStep) (id : TypeId) (ids : List TypeId)
    → Follows listing_rule types (listing_of types) → id.0 < length types
    → map id_index ids ≡ children types id.0 → steps ≡ rest ++ Enter id ∷ []
    → walk_length (listing_of types) ((rest ++ Leave id ∷ []) ++ map Enter (reverse ids)) < walk_length (listing_of types) steps
walk_length_enter types steps rest id ids follows small same e =
    let listed : ℕ → List ℕ = listing_of types in
    let sum : walk_length listed steps ≡ walk_length listed rest + walk_length listed (Enter id ∷ []) = ap (walk_length listed) e
    ∙ walk_length_append listed rest (Enter id ∷ []) in
    let one : length (listed id.0) ≡ length (flat_map listed (children types id.0)) + 1 = one_listed types id.0 follows small in
    let front : walk_length listed (rest ++ Leave id ∷ []) ≡ walk_length listed rest + walk_length listed (Leave id ∷ []) = walk_length_append listed rest
    (Leave id ∷ []) in
    let full : walk_length listed ((rest ++ Leave id ∷ []) ++ map Enter (reverse ids)) ≡ walk_length listed (rest ++ Leave id ∷ []) + walk_length listed
    (map Enter (reverse ids)) = walk_length_append listed (rest ++ Leave id ∷ []) (map Enter (reverse ids)) in
    let below : walk_length listed (map Enter (reverse ids)) ≡ 2 * length (flat_map listed (children types id.0)) = walk_length_reverse listed ids
    ∙ ap (λ z. 2 * length (flat_map listed z)) same in
    omega (arith, sum, one, front, full, below)

-- the set of ids, seen as a list of indices

any_index : (keys : List TypeId) (x : ℕ) → list_any (λ y. x == y) (map id_index keys) ≡ list_any (λ (k : TypeId). x == k.0) keys
any_index [] x = refl
any_index (k ∷ keys) x = ap (λ b. (x == k.0) || b) (any_index keys x)

abbrev same_id : TypeId → TypeId → Bool
same_id a b = a.0 == b.0

pub inserted : (keys : List TypeId) (id : TypeId) → map id_index (insert_key same_id keys id) ≡ with_live (map id_index keys) id.0
inserted keys id =
    elim (cases_Bool (list_any (same_id id) keys)) [
      | inl there ↦
          (let seen : list_any (λ y. id.0 == y) (map id_index keys) ≡ true = any_index keys id.0 ∙ there in
          rw (there, seen) refl)
      | inr new ↦
          (let unseen : list_any (λ y. id.0 == y) (map id_index keys) ≡ false = any_index keys id.0 ∙ new in
          rw (new, unseen) (map-append id_index keys (id ∷ [])))
    ]

pub children_are : (types : List TypeView) (x : ℕ) (t : TypeView) (xs : List ℕ) → slice_get types x ≡ Some t → xs ≡ referenced_indices t.kind
    → xs ≡ children types x
children_are types x t xs at e = e ∙ sym (ap (λ o. option_map_or referenced_indices (option_map (λ (v : TypeView). v.kind) o) []) at)

pub stopped : {X : Type 0} (r : Result Unit X) (P : Type 0) → P → OnErr r P
stopped (Ok u) P p = tt
stopped (Err e) P p = p

-- nothing was added yet
pub stopped_first : (types : List TypeView) (old listing : List ℕ) → AddsSome types old old listing
stopped_first types old listing complete = let more = list_union_extends old listing in (complete, more.0, more.1)
