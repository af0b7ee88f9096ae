-- Flags of resources, made along an order in which each type is after those that it refers to.
use Rattle.std.proofs.Common.{◌≡◌, ◌↔◌, ℕ, ◌<◌, ◌≤◌, ◌+◌, ◌⊎◌, Bool, true, false, IsTrue, List, [], ◌∷◌, length, take, set, get_or, replicate, Option, Some, refl, sym, ap, ◌∙◌, subst, inl, inr, length-set}
use Rattle.std.specs.List.{Contains}
use Rattle.std.specs.Option.{option_map_or}
use Rattle.std.proofs.lemmas.List.{length-replicate}
use Rattle.std.proofs.lemmas.List.Elements.{Contains-push}
use Rattle.wc_resolve.specs.declared.ids.TypeId.{TypeId}
use Rattle.wc_resolve.specs.declared.types.WitType.TheVariants.{Id}
use Rattle.wc_resolve.specs.Views.{KindView, resource_kind, alias_kind, TypeView}
use Rattle.wc_resolve.specs.Kinds.{IsResource, defined, aliased, IsChildrenFirst, children, kind_at, referenced_indices}
use Rattle.wc_resolve.specs.Resources.{AreResourceFlags, is_resource_kind}
use Rattle.wc_resolve.proofs.TableEntryLemmas.{AreEntries, table_start, table_step, table_end}

abbrev pub AliasOf : List TypeView → ℕ → Type 0
AliasOf types x = (i : TypeId) × (kind_at types x ≡ Some (alias_kind (Id i))) × IsResource types i.0

resource_cases : (types : List TypeView) {x : ℕ} → IsResource types x → (kind_at types x ≡ Some resource_kind) ⊎ AliasOf types x
resource_cases types (defined x e) = inl e
resource_cases types (aliased x i e h) = inr (i, e, h)

is_resource_kind_means : (resource_flags : List Bool) (k : Option KindView) → is_resource_kind resource_flags k ≡ true → (k ≡ Some resource_kind) ⊎ ((i : TypeId) × (k ≡ Some (alias_kind (Id i))) × (get_or resource_flags i.0 false ≡ true))
is_resource_kind_means resource_flags (Some resource_kind) h = inl refl
is_resource_kind_means resource_flags (Some (alias_kind (Id i))) h = inr (i, refl, h)
is_resource_kind_means resource_flags k h = absurd (let e : false ≡ true = h in let bad : ⊥ = cc e in bad)

-- what a flag says of a type
abbrev pub IsResourceFlag : List TypeView → ℕ → Bool → Type 0
IsResourceFlag types x flag = IsTrue flag ↔ IsResource types x

-- the flags of all types that are in the list
pub record ResourceFlagsOf (types : List TypeView) (resource_flags : List Bool) (listed : List ℕ) : Type 0 where
  pub same_length : length resource_flags ≡ length types
  pub each : AreEntries (IsResourceFlag types) false resource_flags listed

child_of_alias : (types : List TypeView) (x : ℕ) (i : TypeId) → kind_at types x ≡ Some (alias_kind (Id i)) → Contains (children types x) i.0
child_of_alias types x i e =
    let same : children types x ≡ i.0 ∷ [] = ap (λ k. option_map_or referenced_indices k []) e in
    rw same (Contains-push [] i.0)

resource_flag_right : (types : List TypeView) (resource_flags : List Bool) (x : ℕ) → ((c : ℕ) → Contains (children types x) c → IsTrue (get_or resource_flags c false) ↔ IsResource types c)
    → IsTrue (is_resource_kind resource_flags (kind_at types x)) ↔ IsResource types x
resource_flag_right types resource_flags x each = (
  (λ t. elim (is_resource_kind_means resource_flags (kind_at types x) t) [
    | inl e ↦ defined x e
    | inr a ↦ aliased x a.0 a.1 ((each a.0.0 (child_of_alias types x a.0 a.1)).0 a.2)
  ]),
  (λ h. elim (resource_cases types h) [
    | inl e ↦ ap (λ k. is_resource_kind resource_flags k) e
    | inr a ↦ ap (λ k. is_resource_kind resource_flags k) a.1 ∙ (each a.0.0 (child_of_alias types x a.0 a.1)).1 a.2
  ]),
)

pub resource_flags_start : (types : List TypeView) (n : ℕ) → n ≡ length types → ResourceFlagsOf types (replicate n false) []
resource_flags_start types n e = record { same_length = length-replicate n false ∙ e; each = table_start (IsResourceFlag types) false (replicate n false) }

pub resource_flags_step : (types : List TypeView) (order : List ℕ) (resource_flags : List Bool) (i x : ℕ) (b : Bool) → IsChildrenFirst (children types) order → i < length order
    → x ≡ get_or order i 0 → x < length types → b ≡ is_resource_kind resource_flags (kind_at types x) → ResourceFlagsOf types resource_flags (take i order) → ResourceFlagsOf types (set resource_flags x b) (take (i + 1) order)
resource_flags_step types order resource_flags i x b first small x_at bound made m =
    let below : (c : ℕ) → Contains (children types x) c → IsResourceFlag types c (get_or resource_flags c false) =
    λ c k. m.each.each c (first i c small (subst (λ (z : ℕ). Contains (children types z) c) x_at k)) in
    let right : IsResourceFlag types x b = subst (λ (z : Bool). IsResourceFlag types x z) (sym made) (resource_flag_right types resource_flags x below) in
    let within : x < length resource_flags = rw m.same_length bound in
    record { same_length = length-set resource_flags x b ∙ m.same_length; each = table_step (IsResourceFlag types) false resource_flags order i x b small x_at within right m.each }

pub resource_flags_end : (types : List TypeView) (order : List ℕ) (resource_flags : List Bool) (i : ℕ) → length order ≤ i → ((x : ℕ) → x < length types → Contains order x)
    → ResourceFlagsOf types resource_flags (take i order) → AreResourceFlags types resource_flags
resource_flags_end types order resource_flags i past all m = record { same_length = m.same_length; each = λ x h. table_end (IsResourceFlag types) false resource_flags order i past m.each x (all x h) }
