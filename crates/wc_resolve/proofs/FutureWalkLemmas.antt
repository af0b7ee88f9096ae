-- The loop that lists futures and streams: its state, and its length.
use Rattle.std.proofs.Common.{◌≡◌, ℕ, ◌+◌, ◌*◌, ◌<◌, ◌≤◌, Bool, true, false, List, [], ◌∷◌, ◌++◌, map, reverse, length, refl, sym, ap, ◌∙◌, subst, inl, inr, arith, append_assoc, append-nil}
use Rattle.std.specs.Prelude.{if◌then◌else◌}
use Rattle.std.specs.List.{flat_map, Contains}
use Rattle.std.proofs.lemmas.List.{reverse-append, reverse-reverse}
use Rattle.std.proofs.lemmas.List.Elements.{Contains-append_left, Contains-append_cases, Contains-push, Contains-push_cases}
use Rattle.indexmap.proofs.ReorderLemmas.{map-reverse}
use Rattle.wc_resolve.specs.declared.ids.TypeId.{TypeId}
use Rattle.wc_resolve.specs.declared.walk.TypeStep.{TypeStep}
use Rattle.wc_resolve.specs.declared.walk.TypeStep.TheVariants.{Enter, Leave}
use Rattle.wc_resolve.specs.Views.{TypeView}
use Rattle.wc_resolve.specs.Roots.{id_index}
use Rattle.wc_resolve.specs.Live.{listing_of}
use Rattle.wc_resolve.specs.Futures.{EntryView, IsFuturesEntry, futures_of, itself}
use Rattle.wc_maps.proofs.ListLemmas.{contains_none}
use Rattle.wc_resolve.proofs.ListingLemmas.{step_index, walk_length, walk_length_append, walk_length_reverse}
use Rattle.wc_resolve.proofs.WalkLemmas.{contains_reverse, ids_within}

-- what steps are going to list, the next one first
abbrev pub remaining : (ℕ → List ℕ) → List TypeStep → List ℕ
remaining listed [] = []
remaining listed (Enter id ∷ steps) = listed id.0 ++ remaining listed steps
remaining listed (Leave id ∷ steps) = id.0 ∷ remaining listed steps

remaining_enters : (listed : ℕ → List ℕ) (ids : List TypeId) (steps : List TypeStep) → remaining listed (map Enter ids ++ steps) ≡ flat_map listed (map id_index ids) ++ remaining listed steps
remaining_enters listed [] steps = refl
remaining_enters listed (id ∷ ids) steps =
    ap (λ z. listed id.0 ++ z) (remaining_enters listed ids steps) ∙ sym (append_assoc (listed id.0) (flat_map listed (map id_index ids)) (remaining listed steps))

-- the step that adds a future or a stream
abbrev pub self_steps : Bool → TypeId → List TypeStep
self_steps carrier id = if carrier then Leave id ∷ [] else []

remaining_self : (listed : ℕ → List ℕ) (carrier : Bool) (id : TypeId) (steps : List TypeStep) → remaining listed (self_steps carrier id ++ steps) ≡ (if carrier then id.0 ∷ [] else []) ++ remaining listed steps
remaining_self listed true id steps = refl
remaining_self listed false id steps = refl

self_turned : (carrier : Bool) (id : TypeId) → reverse (self_steps carrier id) ≡ self_steps carrier id
self_turned true id = refl
self_turned false id = refl

-- steps are stored with the next one last
pub record IsFutureWalk (types : List TypeView) (goal found : List ℕ) (steps : List TypeStep) : Type 0 where
  pub within : (s : TypeStep) → Contains steps s → step_index s < length types
  pub each : goal ≡ found ++ remaining (futures_of types) (reverse steps)

pub futures_start : (types : List TypeView) (ids : List TypeId) → ((x : ℕ) → Contains (map id_index ids) x → x < length types)
    → IsFutureWalk types (flat_map (futures_of types) (map id_index ids)) [] (map Enter (reverse ids))
futures_start types ids within =
    let below : (c : ℕ) → Contains (map id_index (reverse ids)) c → c < length types =
    λ c h. within c (contains_reverse (map id_index ids) c (subst (λ (z : List ℕ). Contains z c) (map-reverse id_index ids) h)) in
    let turned : reverse (map Enter (reverse ids)) ≡ map Enter ids ++ [] = ap reverse (map-reverse Enter ids) ∙ reverse-reverse (map Enter ids) ∙ sym (append-nil (map Enter ids)) in
    record {
      within = ids_within types (reverse ids) below;
      each = sym (ap (remaining (futures_of types)) turned ∙ remaining_enters (futures_of types) ids [] ∙ append-nil (flat_map (futures_of types) (map id_index ids)));
    }

pub future_within : (types : List TypeView) (goal found : List ℕ) (steps rest : List TypeStep) (s : TypeStep) → IsFutureWalk types goal found steps → steps ≡ rest ++ s ∷ [] → step_index s < length types
future_within types goal found steps rest s w e = w.within s (subst (λ (z : List TypeStep). Contains z s) (sym e) (Contains-push rest s))

rest_within : (types : List TypeView) (goal found : List ℕ) (steps rest : List TypeStep) (s : TypeStep) → IsFutureWalk types goal found steps → steps ≡ rest ++ s ∷ []
    → (t : TypeStep) → Contains rest t → step_index t < length types
rest_within types goal found steps rest s w e t h = w.within t (subst (λ (z : List TypeStep). Contains z t) (sym e) (Contains-append_left rest (s ∷ []) t h))

facing : (types : List TypeView) (goal found : List ℕ) (steps rest : List TypeStep) (s : TypeStep) → IsFutureWalk types goal found steps → steps ≡ rest ++ s ∷ []
    → goal ≡ found ++ remaining (futures_of types) (s ∷ reverse rest)
facing types goal found steps rest s w e = w.each ∙ ap (λ z. found ++ remaining (futures_of types) z) (ap reverse e ∙ reverse-append rest (s ∷ []))

entered_first : (rest : List TypeStep) (carrier : Bool) (id : TypeId) (ids : List TypeId) → reverse ((rest ++ self_steps carrier id) ++ map Enter (reverse ids)) ≡ map Enter ids ++ (self_steps carrier id ++ reverse rest)
entered_first rest carrier id ids =
    let full = reverse-append (rest ++ self_steps carrier id) (map Enter (reverse ids)) in
    let front : reverse (map Enter (reverse ids)) ≡ map Enter ids = ap reverse (map-reverse Enter ids) ∙ reverse-reverse (map Enter ids) in
    let back : reverse (rest ++ self_steps carrier id) ≡ self_steps carrier id ++ reverse rest = reverse-append rest (self_steps carrier id) ∙ ap (λ z. z ++ reverse rest) (self_turned carrier id) in
    full ∙ ap (λ z. z ++ reverse (rest ++ self_steps carrier id)) front ∙ ap (λ z. map Enter ids ++ z) back

self_within : (types : List TypeView) (carrier : Bool) (id : TypeId) → id.0 < length types → (s : TypeStep) → Contains (self_steps carrier id) s → step_index s < length types
self_within types true id small s h = elim (Contains-push_cases [] (Leave id) s h) [ inl none ↦ absurd (contains_none s none) | inr same ↦ subst (λ (z : TypeStep). step_index z < length types) same small ]
self_within types false id small s h = absurd (contains_none s h)

pub future_enter : (types : List TypeView) (goal found : List ℕ) (steps rest : List TypeStep) (id : TypeId) (entry : EntryView) → IsFuturesEntry types id.0 entry
    → IsFutureWalk types goal found steps → steps ≡ rest ++ Enter id ∷ [] → IsFutureWalk types goal found ((rest ++ self_steps entry.is_carrier id) ++ map Enter (reverse entry.parts))
future_enter types goal found steps rest id entry kept w e =
    let small : id.0 < length types = future_within types goal found steps rest (Enter id) w e in
    let below : (c : ℕ) → Contains (map id_index (reverse entry.parts)) c → c < length types =
    λ c h. kept.within c (contains_reverse (map id_index entry.parts) c (subst (λ (z : List ℕ). Contains z c) (map-reverse id_index entry.parts) h)) in
    let parts : List ℕ = map id_index entry.parts in
    let own : List ℕ = itself entry.is_carrier id.0 in
    let after : List ℕ = remaining (futures_of types) (reverse rest) in
    let shown : remaining (futures_of types) (reverse ((rest ++ self_steps entry.is_carrier id) ++ map Enter (reverse entry.parts))) ≡ flat_map (futures_of types) parts ++ (own ++ after) =
    ap (remaining (futures_of types)) (entered_first rest entry.is_carrier id entry.parts) ∙ remaining_enters (futures_of types) entry.parts (self_steps entry.is_carrier id ++ reverse rest)
    ∙ ap (λ z. flat_map (futures_of types) parts ++ z) (remaining_self (futures_of types) entry.is_carrier id (reverse rest)) in
    record {
      within = λ s h. elim (Contains-append_cases (rest ++ self_steps entry.is_carrier id) (map Enter (reverse entry.parts)) s h) [
        | inl front ↦ elim (Contains-append_cases rest (self_steps entry.is_carrier id) s front) [
          | inl before ↦ rest_within types goal found steps rest (Enter id) w e s before
          | inr mine ↦ self_within types entry.is_carrier id small s mine
        ]
        | inr back ↦ ids_within types (reverse entry.parts) below s back
      ];
      each = facing types goal found steps rest (Enter id) w e ∙ ap (λ z. found ++ (z ++ after)) kept.made
          ∙ ap (λ z. found ++ z) (append_assoc (flat_map (futures_of types) parts) own after ∙ sym shown);
    }

-- the length of a walk

self_walk_length : (listed : ℕ → List ℕ) (carrier : Bool) (id : TypeId) → walk_length listed (self_steps carrier id) ≤ 1
self_walk_length listed true id = omega arith
self_walk_length listed false id = omega arith

pub future_walk_length : (types : List TypeView) (steps rest : List TypeStep) (id : TypeId) (entry : EntryView) → IsFuturesEntry types id.0 entry → steps ≡ rest ++ Enter id ∷ []
    → walk_length (listing_of types) ((rest ++ self_steps entry.is_carrier id) ++ map Enter (reverse entry.parts)) < walk_length (listing_of types) steps
future_walk_length types steps rest id entry kept e =
    let listed : ℕ → List ℕ = listing_of types in
    let sum : walk_length listed steps ≡ walk_length listed rest + walk_length listed (Enter id ∷ []) = ap (walk_length listed) e
    ∙ walk_length_append listed rest (Enter id ∷ []) in
    let less : length (flat_map listed (map id_index entry.parts)) < length (listed id.0) = kept.shorter in
    let front : walk_length listed (rest ++ self_steps entry.is_carrier id) ≡ walk_length listed rest + walk_length listed (self_steps entry.is_carrier id) = walk_length_append listed rest (self_steps entry.is_carrier id) in
    let full = walk_length_append listed (rest ++ self_steps entry.is_carrier id) (map Enter (reverse entry.parts)) in
    let below : walk_length listed (map Enter (reverse entry.parts)) ≡ 2 * length (flat_map listed (map id_index entry.parts)) = walk_length_reverse listed
    entry.parts in
    let own = self_walk_length listed entry.is_carrier id in
    omega (arith, sum, less, front, full, below, own)
