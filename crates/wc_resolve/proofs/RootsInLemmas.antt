-- The types that functions, interfaces and items name are in range, where the ids in these are.
use Rattle.std.proofs.Common.{◌≡◌, ℕ, ◌<◌, List, [], ◌∷◌, ◌++◌, map, length, Option, Some, None, refl, subst, inl, inr}
use Rattle.std.specs.List.{flat_map, slice_get, Contains, All}
use Rattle.std.specs.Option.{IfSome, option_map_or}
use Rattle.std.proofs.lemmas.List.Concat.{flat_map_single}
use Rattle.std.proofs.lemmas.List.Elements.{All-contains, Contains-append_cases, Contains-push_cases}
use Rattle.wc_resolve.specs.declared.types.WitType.{WitType}
use Rattle.wc_resolve.specs.declared.types.WitType.TheVariants.{Id}
use Rattle.wc_resolve.specs.declared.functions.FunctionKind.{FunctionKind}
use Rattle.wc_resolve.specs.declared.functions.FunctionKind.TheVariants.{Static, AsyncStatic}
use Rattle.wc_resolve.specs.Views.{FunctionView, InterfaceView, ItemView, interface_item, function_item, type_item}
use Rattle.wc_resolve.specs.Kinds.{ResolveView, SignatureHasOnly}
use Rattle.wc_resolve.specs.Ranges.{AreIdsInRange, AreNamesIn, IsFunctionIn, IsItemIn, IsKindIn, IsTypeIn}
use Rattle.wc_resolve.specs.Roots.{type_roots, static_roots, passed_roots, function_roots, interface_roots, item_roots}
use Rattle.wc_maps.proofs.ListLemmas.{contains_none}
use Rattle.wc_resolve.proofs.ListUnionLemmas.{joined_from}
use Rattle.wc_resolve.proofs.WellFormedLemmas.{interface_names_in}

-- numbers that are all below a bound
abbrev pub AreBelow : ℕ → List ℕ → Type 0
AreBelow n xs = (x : ℕ) → Contains xs x → x < n

pub below_append : (n : ℕ) (xs ys : List ℕ) → AreBelow n xs → AreBelow n ys → AreBelow n (xs ++ ys)
below_append n xs ys h k x c = elim (Contains-append_cases xs ys x c) [ inl a ↦ h x a | inr b ↦ k x b ]

pub below_none : (n : ℕ) → AreBelow n []
below_none n x c = absurd (contains_none x c)

pub below_one : (n y : ℕ) → y < n → AreBelow n (y ∷ [])
below_one n y small x c = elim (Contains-push_cases [] y x c) [ inl none ↦ absurd (contains_none x none) | inr same ↦ subst (λ (z : ℕ). z < n) same small ]

pub below_joined : {E : Type 0} (n : ℕ) (f : E → List ℕ) (xs : List E) → All (λ e. AreBelow n (f e)) xs → AreBelow n (flat_map f xs)
below_joined n f xs all x c = let p = joined_from f xs x c in All-contains (λ e. AreBelow n (f e)) xs p.0 all p.1 x p.2

pub type_in : (n : ℕ) (t : WitType) → IsTypeIn n t → AreBelow n (type_roots t)
type_in n (Id i) h = below_one n i.0 h
type_in n t h = below_none n

static_in : (n : ℕ) (kind : FunctionKind) → IsKindIn n kind → AreBelow n (static_roots kind)
static_in n (Static i) h = below_one n i.0 h
static_in n (AsyncStatic i) h = below_one n i.0 h
static_in n kind h = below_none n

pub outcome_in : (n : ℕ) (outcome : Option WitType) → IfSome outcome (IsTypeIn n) → AreBelow n (option_map_or type_roots outcome [])
outcome_in n None h = below_none n
outcome_in n (Some t) h = type_in n t h

pub passed_in : (n : ℕ) (f : FunctionView) → SignatureHasOnly (IsTypeIn n) f → AreBelow n (passed_roots f)
passed_in n f h =
    below_append n (flat_map (λ p. type_roots p.1) f.params) (option_map_or type_roots f.outcome [])
    (below_joined n (λ p. type_roots p.1) f.params (λ k d small. type_in n _ (h.0 k d small)))
    (outcome_in n f.outcome h.1)

pub passes_in : (n : ℕ) (f : FunctionView) → IsFunctionIn n f → AreBelow n (passed_roots f)
unfolding IsFunctionIn
passes_in n f h = passed_in n f h.1

pub function_in : (n : ℕ) (f : FunctionView) → IsFunctionIn n f → AreBelow n (function_roots f)
unfolding IsFunctionIn
function_in n f h = below_append n (static_roots f.kind) (passed_roots f) (static_in n f.kind h.0) (passed_in n f h.1)

interface_in : (r : ResolveView) (i : InterfaceView) → AreNamesIn r i → AreBelow (length r.types) (interface_roots i)
unfolding AreNamesIn
interface_in r i h =
    below_append (length r.types) (map (λ e. e.1) i.types) (flat_map (λ e. function_roots e.1) i.functions)
    (subst (AreBelow (length r.types)) (flat_map_single (λ (e : List ℕ × ℕ). e.1) i.types)
    (below_joined (length r.types) (λ (e : List ℕ × ℕ). e.1 ∷ []) i.types (λ k d small. below_one (length r.types) _ (h.0 k d small))))
    (below_joined (length r.types) (λ e. function_roots e.1) i.functions (λ k d small. function_in (length r.types) _ (h.1 k d small)))

found_in : (r : ResolveView) (i : ℕ) (o : Option InterfaceView) → AreIdsInRange r → slice_get r.interfaces i ≡ o → AreBelow (length r.types) (option_map_or interface_roots o [])
found_in r i None h e = below_none (length r.types)
found_in r i (Some v) h e = interface_in r v (interface_names_in r i v h e)

pub item_in : (r : ResolveView) (item : ItemView) → AreIdsInRange r → IsItemIn r item → AreBelow (length r.types) (item_roots r item)
item_in r (interface_item i external) h k = found_in r i (slice_get r.interfaces i) h refl
item_in r (function_item f) h k = function_in (length r.types) f k
item_in r (type_item t) h k = below_one (length r.types) t k
