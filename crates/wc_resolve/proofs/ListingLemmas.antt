-- Listings of types: what the walk that adds live types keeps.
use Rattle.std.proofs.Common.{◌≡◌, ℕ, zero, suc, ◌+◌, ◌*◌, ◌<◌, List, [], ◌∷◌, ◌++◌, map, reverse, length, refl, sym, ap, ◌∙◌, subst, inl, inr, arith, length-append}
use Rattle.std.specs.List.{filter_map, flat_map, Contains}
use Rattle.std.proofs.lemmas.List.{reverse-append, map-append}
use Rattle.std.proofs.lemmas.List.Elements.{Contains-append_cases, Contains-push, Contains-push_cases}
use Rattle.wc_resolve.specs.declared.ids.TypeId.{TypeId}
use Rattle.wc_resolve.specs.declared.types.WitType.{WitType}
use Rattle.wc_resolve.specs.declared.types.WitType.TheVariants.{Id}
use Rattle.wc_resolve.specs.declared.walk.TypeStep.{TypeStep}
use Rattle.wc_resolve.specs.declared.walk.TypeStep.TheVariants.{Enter, Leave}
use Rattle.wc_resolve.specs.Views.{TypeView}
use Rattle.wc_resolve.specs.Kinds.{children, type_index}
use Rattle.wc_resolve.specs.TypeRules.{Follows, repeated, value_by_rule}
use Rattle.wc_resolve.specs.Roots.{id_index, type_id}
use Rattle.wc_resolve.specs.Live.{listing_rule, listing_of, with_live, list_union, IsComplete, Keeps}
use Rattle.wc_resolve.proofs.TypeRuleLemmas.{LooksDown}
use Rattle.wc_maps.proofs.ListLemmas.{contains_none}
use Rattle.wc_resolve.proofs.ListUnionLemmas.{contains_joined, joined_from, joined_same, with_keeps, with_from, with_extends, keeps_same, keeps_more, list_union_append, list_union_there, list_union_has, list_union_extends}

pub ids_indices : (ts : List WitType) → map id_index (filter_map type_id ts) ≡ filter_map type_index ts
ids_indices [] = refl
ids_indices (Id i ∷ ts) = ap (λ rest. i.0 ∷ rest) (ids_indices ts)
ids_indices (t ∷ ts) = ids_indices ts

pub listing_looks_down : (types : List TypeView) → LooksDown listing_rule types
listing_looks_down types f g x h = ap (λ z. z ++ x ∷ []) (joined_same f g (children types x) h)

-- all of a listing is there where its type is
level_there : (types : List TypeView) (live : List ℕ) → IsComplete types live → (n x c : ℕ) → Contains live x → Contains (repeated listing_rule [] types n x) c → Contains live c
level_there types live complete zero x c h k = absurd (contains_none c k)
level_there types live complete (suc n) x c h k =
    elim (Contains-append_cases (flat_map (repeated listing_rule [] types n) (children types x)) (x ∷ []) c k) [
      | inl below ↦
          (let p = joined_from (repeated listing_rule [] types n) (children types x) c below in
          level_there types live complete n p.0 c (complete x p.0 h p.1) p.2)
      | inr itself ↦ elim (Contains-push_cases [] x c itself) [ inl none ↦ absurd (contains_none c none) | inr same ↦ subst (Contains live) same h ]
    ]

pub listing_there : (types : List TypeView) (live : List ℕ) → IsComplete types live → (x c : ℕ) → Contains live x → Contains (listing_of types x) c → Contains live c
unfolding value_by_rule
listing_there types live complete x c h k = level_there types live complete (length types) x c h k

pub complete_none : (types : List TypeView) → IsComplete types []
complete_none types x c h k = absurd (contains_none x h)

-- a type after those that it refers to
pub complete_more : (types : List TypeView) (live : List ℕ) (x : ℕ) → IsComplete types live → ((c : ℕ) → Contains (children types x) c → Contains live c) → IsComplete types (with_live live x)
complete_more types live x complete below y c h k =
    with_keeps live x c (elim (with_from live x y h) [
      | inl old ↦ complete y c old k
      | inr same ↦ below c (subst (λ (z : ℕ). Contains (children types z) c) (sym same) k)
    ])

-- the steps that are left to do, the next one first

abbrev pub step_index : TypeStep → ℕ
step_index (Enter id) = id.0
step_index (Leave id) = id.0

-- what is there when all of them are done
abbrev pub finished : (ℕ → List ℕ) → List ℕ → List TypeStep → List ℕ
finished listed live [] = live
finished listed live (Enter id ∷ steps) = finished listed (list_union live (listed id.0)) steps
finished listed live (Leave id ∷ steps) = finished listed (with_live live id.0) steps

-- at each step that leaves a type, all that it refers to is there
abbrev pub AreReady : (ℕ → List ℕ) → (ℕ → List ℕ) → List ℕ → List TypeStep → Type 0
AreReady next listed live [] = Unit {0}
AreReady next listed live (Enter id ∷ steps) = AreReady next listed (list_union live (listed id.0)) steps
AreReady next listed live (Leave id ∷ steps) = ((c : ℕ) → Contains (next id.0) c → Contains live c) × AreReady next listed (with_live live id.0) steps

pub finished_enters : (listed : ℕ → List ℕ) (live : List ℕ) (ids : List TypeId) (steps : List TypeStep)
    → finished listed live (map Enter ids ++ steps) ≡ finished listed (list_union live (flat_map listed (map id_index ids))) steps
finished_enters listed live [] steps = refl
finished_enters listed live (id ∷ ids) steps =
    let rest = finished_enters listed (list_union live (listed id.0)) ids steps in
    let same : list_union (list_union live (listed id.0)) (flat_map listed (map id_index ids)) ≡ list_union live (listed id.0 ++ flat_map listed (map id_index ids)) = sym (list_union_append live (listed id.0) (flat_map listed (map id_index ids))) in
    rest ∙ ap (λ z. finished listed z steps) same

pub ready_enters : (next listed : ℕ → List ℕ) (live : List ℕ) (ids : List TypeId) (steps : List TypeStep)
    → AreReady next listed (list_union live (flat_map listed (map id_index ids))) steps → AreReady next listed live (map Enter ids ++ steps)
ready_enters next listed live [] steps h = h
ready_enters next listed live (id ∷ ids) steps h =
    let same : list_union live (listed id.0 ++ flat_map listed (map id_index ids)) ≡ list_union (list_union live (listed id.0)) (flat_map listed (map id_index ids)) = list_union_append live (listed id.0) (flat_map listed (map id_index ids)) in
    ready_enters next listed (list_union live (listed id.0)) ids steps (subst (λ (z : List ℕ). AreReady next listed z steps) same h)

pub finished_extends : (listed : ℕ → List ℕ) (live : List ℕ) (steps : List TypeStep) → Keeps live (finished listed live steps)
finished_extends listed live [] = keeps_same live
finished_extends listed live (Enter id ∷ steps) =
    keeps_more live (list_union live (listed id.0)) (finished listed (list_union live (listed id.0)) steps) (list_union_extends live (listed id.0)) (finished_extends listed (list_union live (listed id.0)) steps)
finished_extends listed live (Leave id ∷ steps) =
    keeps_more live (with_live live id.0) (finished listed (with_live live id.0) steps) (with_extends live id.0) (finished_extends listed (with_live live id.0) steps)

-- what the walk keeps where it began with all that types there refer to
pub record IsAdding (types : List TypeView) (goal live : List ℕ) (steps : List TypeStep) : Type 0 where
  pub complete : IsComplete types live
  pub ready : AreReady (children types) (listing_of types) live steps
  pub ends : finished (listing_of types) live steps ≡ goal

pub adding_skip : (types : List TypeView) (goal live : List ℕ) (id : TypeId) (steps : List TypeStep) → IsAdding types goal live (Enter id ∷ steps) → Contains live id.0 → IsAdding types goal live steps
adding_skip types goal live id steps a h =
    let same : list_union live (listing_of types id.0) ≡ live = list_union_there live (listing_of types id.0) (λ c k. listing_there types live a.complete id.0 c h k) in
    record {
      complete = a.complete;
      ready = subst (λ (z : List ℕ). AreReady (children types) (listing_of types) z steps) same a.ready;
      ends = ap (λ z. finished (listing_of types) z steps) (sym same) ∙ a.ends;
    }

pub adding_leave : (types : List TypeView) (goal live : List ℕ) (id : TypeId) (steps : List TypeStep) → IsAdding types goal live (Leave id ∷ steps) → IsAdding types goal (with_live live id.0) steps
adding_leave types goal live id steps a = record {
  complete = complete_more types live id.0 a.complete a.ready.0;
  ready = a.ready.1;
  ends = a.ends;
}

-- a listing has its own type
self_listed : (types : List TypeView) (x : ℕ) → Follows listing_rule types (listing_of types) → x < length types → Contains (listing_of types x) x
self_listed types x follows small =
    subst (λ (z : List ℕ). Contains z x) (sym (follows x small)) (Contains-push (flat_map (listing_of types) (children types x)) x)

pub adding_enter : (types : List TypeView) (goal live : List ℕ) (id : TypeId) (ids : List TypeId) (steps : List TypeStep) → Follows listing_rule types (listing_of types) → id.0 < length types
    → ((c : ℕ) → Contains (children types id.0) c → c < length types) → map id_index ids ≡ children types id.0
    → IsAdding types goal live (Enter id ∷ steps) → IsAdding types goal live (map Enter ids ++ Leave id ∷ steps)
adding_enter types goal live id ids steps follows small within same a =
    let below : List ℕ = flat_map (listing_of types) (children types id.0) in
    let first : list_union live (listing_of types id.0) ≡ with_live (list_union live below) id.0 = ap (list_union live) (follows id.0 small) ∙ list_union_append live below (id.0 ∷ []) in
    let left : flat_map (listing_of types) (map id_index ids) ≡ below = ap (flat_map (listing_of types)) same in
    let there : (c : ℕ) → Contains (children types id.0) c → Contains (list_union live below) c =
    λ c h. list_union_has live below c (contains_joined (listing_of types) (children types id.0) c c h (self_listed types c follows (within c h))) in
    let ready : AreReady (children types) (listing_of types) (list_union live below) (Leave id ∷ steps) =
    (there, subst (λ (z : List ℕ). AreReady (children types) (listing_of types) z steps) first a.ready) in
    record {
      complete = a.complete;
      ready = ready_enters (children types) (listing_of types) live ids (Leave id ∷ steps)
          (subst (λ (z : List ℕ). AreReady (children types) (listing_of types) (list_union live z) (Leave id ∷ steps)) (sym left) ready);
      ends = finished_enters (listing_of types) live ids (Leave id ∷ steps) ∙ ap (λ z. finished (listing_of types) (list_union live z) (Leave id ∷ steps)) left
          ∙ ap (λ z. finished (listing_of types) z steps) (sym first) ∙ a.ends;
    }

-- how many steps are left at most
abbrev pub step_length : (ℕ → List ℕ) → TypeStep → ℕ
step_length listed (Enter id) = 2 * length (listed id.0)
step_length listed (Leave id) = 1

abbrev pub walk_length : (ℕ → List ℕ) → List TypeStep → ℕ
walk_length listed [] = 0
walk_length listed (s ∷ steps) = step_length listed s + walk_length listed steps

pub walk_length_append : (listed : ℕ → List ℕ) (xs ys : List TypeStep) → walk_length listed (xs ++ ys) ≡ walk_length listed xs + walk_length listed ys
walk_length_append listed [] ys = omega arith
walk_length_append listed (s ∷ xs) ys =
    let rest : walk_length listed (xs ++ ys) ≡ walk_length listed xs + walk_length listed ys = walk_length_append listed xs ys in omega (arith, rest)

pub walk_length_reverse : (listed : ℕ → List ℕ) (ids : List TypeId)
    → walk_length listed (map Enter (reverse ids)) ≡ 2 * length (flat_map listed (map id_index ids))
walk_length_reverse listed [] = refl
walk_length_reverse listed (id ∷ ids) =
    let split : map Enter (reverse (id ∷ ids)) ≡ map Enter (reverse ids) ++ Enter id ∷ [] = ap (map Enter) (reverse-append (id ∷ []) ids) ∙ map-append Enter (reverse ids) (id ∷ []) in
    let sum : walk_length listed (map Enter (reverse (id ∷ ids))) ≡ walk_length listed (map Enter (reverse ids)) + walk_length listed (Enter id ∷ []) = ap (walk_length listed) split ∙ walk_length_append listed (map Enter (reverse ids)) (Enter id ∷ []) in
    let rest : walk_length listed (map Enter (reverse ids)) ≡ 2 * length (flat_map listed (map id_index ids)) = walk_length_reverse listed ids in
    let full : length (listed id.0 ++ flat_map listed (map id_index ids)) ≡ length (listed id.0) + length (flat_map listed (map id_index ids)) = length-append (listed id.0) (flat_map listed (map id_index ids)) in
    omega (arith, sum, rest, full)
