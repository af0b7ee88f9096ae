-- Targets of aliases, and the interfaces that own them.
use Rattle.std.proofs.Common.{◌≡◌, ℕ, ◌<◌, String, List, [], ◌∷◌, ◌++◌, map, length, Option, Some, None, refl, sym, ap, ◌∙◌, subst, inl, inr}
use Rattle.std.specs.List.{filter_map, flat_map, Contains, All}
use Rattle.std.specs.Option.{option_and_then, option_map_or, option_to_list}
use Rattle.std.specs.declared.alloc.Global.{Global}
use Rattle.std.proofs.lemmas.List.Elements.{All-contains, Contains-append_right, Contains-push}
use Rattle.wc_resolve.specs.declared.ids.TypeId.{TypeId}
use Rattle.wc_resolve.specs.declared.types.WitType.TheVariants.{Id}
use Rattle.wc_resolve.specs.Views.{KindView, alias_kind, InterfaceView, type_entry}
use Rattle.wc_resolve.specs.Kinds.{ResolveView, kind_at, referenced_indices}
use Rattle.wc_resolve.specs.Ranges.{AreIdsInRange, AreNamesIn}
use Rattle.wc_resolve.specs.Dependencies.{alias_target, dependency}
use Rattle.wc_resolve.proofs.AcyclicLemmas.{children_within, ids_of_types}
use Rattle.wc_maps.proofs.ListLemmas.{contains_none, contains_head, contains_tail, contains_cons}
use Rattle.wc_resolve.proofs.PushedLemmas.{IsPushed, push_end}

target_referenced : (o : Option KindView) (t : ℕ) → option_and_then alias_target o ≡ Some t → Contains (option_map_or referenced_indices o []) t
target_referenced None t e = absurd (let bad : ⊥ = cc e in bad)
target_referenced (Some (alias_kind (Id i))) t e = let same : i.0 ≡ t = cc e in subst (λ (z : ℕ). Contains (i.0 ∷ []) z) same (Contains-push [] i.0)
target_referenced (Some k) t e = absurd (let bad : ⊥ = cc e in bad)

pub target_within : (r : ResolveView) (x t : ℕ) → AreIdsInRange r → Some t ≡ option_and_then alias_target (kind_at r.types x) → t < length r.types
target_within r x t h e = children_within r (ids_of_types r h) x t (target_referenced (kind_at r.types x) t (sym e))

types_in : (r : ResolveView) (v : InterfaceView) → AreNamesIn r v → All (λ e. e.1 < length r.types) v.types
unfolding AreNamesIn
types_in r v h = h.0

contains_mapped : (entries : List (String Global × TypeId)) (e : String Global × TypeId) → Contains entries e → Contains (map type_entry entries) (type_entry e)
contains_mapped [] e h = absurd (contains_none e h)
contains_mapped (d ∷ entries) e h =
    elim (contains_cons d entries e h) [
      | inl same ↦ subst (λ (z : String Global × TypeId). Contains (type_entry d ∷ map type_entry entries) (type_entry z)) same (contains_head (map type_entry entries) (type_entry d))
      | inr rest ↦ contains_tail (type_entry d) (map type_entry entries) (type_entry e) (contains_mapped entries e rest)
    ]

-- an entry that is left is in range
pub entry_within : (r : ResolveView) (v : InterfaceView) (f : String Global × TypeId → List ℕ) (entries left rest : List (String Global × TypeId)) (e : String Global × TypeId) (old new : List ℕ) → AreNamesIn r v
    → v.types ≡ map type_entry entries → IsPushed f entries left old new → left ≡ e ∷ rest → e.1.0 < length r.types
entry_within r v f entries left rest e old new h seen p next =
    let full : entries ≡ p.front ++ e ∷ rest = p.split ∙ ap (λ z. p.front ++ z) next in
    let there : Contains entries e = subst (λ (z : List (String Global × TypeId)). Contains z e) (sym full) (Contains-append_right p.front (e ∷ rest) e (contains_head rest e)) in
    let all : All (λ (x : List ℕ × ℕ). x.1 < length r.types) (map type_entry entries) = subst (All (λ (x : List ℕ × ℕ). x.1 < length r.types)) seen (types_in r v h) in
    All-contains (λ (x : List ℕ × ℕ). x.1 < length r.types) (map type_entry entries) (type_entry e) all (contains_mapped entries e there)

with_one : (o : Option ℕ) (h : ℕ → Option ℕ) (x : ℕ) (xs : List ℕ) → h x ≡ o → option_to_list (h x) ++ filter_map h xs ≡ filter_map h (x ∷ xs)
with_one None h x xs e = rw e refl
with_one (Some y) h x xs e = rw e refl

filtered : (h : ℕ → Option ℕ) (entries : List (String Global × TypeId)) → flat_map (λ (e : String Global × TypeId). option_to_list (h e.1.0)) entries ≡ filter_map h (map (λ (x : List ℕ × ℕ). x.1) (map type_entry entries))
filtered h [] = refl
filtered h (e ∷ entries) =
    ap (λ z. option_to_list (h e.1.0) ++ z) (filtered h entries) ∙ with_one (h e.1.0) h e.1.0 (map (λ (x : List ℕ × ℕ). x.1) (map type_entry entries)) refl

pub dependencies_end : (r : ResolveView) (i : ℕ) (v : InterfaceView) (entries left : List (String Global × TypeId)) (old new : List ℕ) → v.types ≡ map type_entry entries
    → IsPushed (λ (e : String Global × TypeId). option_to_list (dependency r i e.1.0)) entries left old new → left ≡ [] → new ≡ old ++ filter_map (dependency r i) (map (λ (x : List ℕ × ℕ). x.1) v.types)
dependencies_end r i v entries left old new seen p none =
    push_end (λ (e : String Global × TypeId). option_to_list (dependency r i e.1.0)) entries left old new p none
    ∙ ap (λ z. old ++ z) (filtered (dependency r i) entries ∙ ap (λ z. filter_map (dependency r i) (map (λ (x : List ℕ × ℕ). x.1) z)) (sym seen))
