-- What faults of parts are about.
use Rattle.std.proofs.Common.{◌≡◌, ℕ, ◌<◌, ◌↔◌, Bool, true, false, IsTrue, List, map, length, take, get_or, Some, sym, ap, subst, ◌∙◌}
use Rattle.std.specs.List.{All}
use Rattle.std.proofs.lemmas.List.{take-map}
use Rattle.std.proofs.lemmas.Option.{get_or_from_slice_get, slice_get_within}
use Rattle.wc_resolve.specs.declared.fault.ResolveFault.{ResolveFault}
use Rattle.wc_resolve.specs.declared.fault.ResolveFault.TheVariants.{IdRange, Unnamed, KeyMismatch, BadCharacter, ByValueResource, Empty}
use Rattle.wc_resolve.specs.declared.explain.Part.{Part}
use Rattle.wc_resolve.specs.declared.explain.Part.TheVariants.{World, Interface, TypeDef, Package}
use Rattle.wc_resolve.specs.Explain.{DoesWorldFollow, DoesInterfaceFollow, DoesTypeFollow, DoesPackageFollow, IsFirstBreach, IsBreach, DoAllFollow}
use Rattle.wc_resolve.specs.Ranges.{AreIdsInRange}
use Rattle.wc_resolve.specs.WellFormed.{AreNamed, KeysMatch, AreNamesSpelled, HasNoResourceByValue, HasNoEmptyType}
use Rattle.wc_resolve.specs.Kinds.{ResolveView, DoAllTypesPass}
use Rattle.wc_maps.proofs.ListLemmas.{view_found}

-- a loop that has found an item that is not so
pub breach_found : {X Y : Type 0} (f : X → Y) (P : Y → Type 0) (xs : List X) (i : ℕ) (x : X) (b : Bool) → i < length xs → x ≡ get_or xs i x
    → IsTrue b ↔ P (f x) → b ≡ false → All P (map f (take i xs)) → IsFirstBreach P (map f xs) i
breach_found f P xs i x b small read test fail before = (
  subst (All P) (sym (take-map f i xs)) before,
  f x,
  view_found f xs i x small ∙ ap (λ z. Some (f z)) (sym read),
  λ holds. let e : true ≡ false = sym (test.1 holds) ∙ fail in let bad : ⊥ = cc e in bad,
)

-- a part that breaks a rule, which the others then don't all follow
breach_refutes : {X : Type 0} (P : X → Type 0) (xs : List X) (i : ℕ) → IsFirstBreach P xs i → All P xs → ⊥
breach_refutes P xs i h all =
    let x = h.1 in
    let small : i < length xs = slice_get_within xs i x h.2 in
    h.3 (subst P (get_or_from_slice_get xs i x x h.2) (all i x small))

pub broken : (r : ResolveView) (f : ResolveFault) (p : Part) → IsBreach r f p → DoAllFollow r f → ⊥
broken r f (World i) h all = breach_refutes (DoesWorldFollow r f) r.worlds i h all.0
broken r f (Interface i) h all = breach_refutes (DoesInterfaceFollow r f) r.interfaces i h.1 all.1
broken r f (TypeDef i) h all = breach_refutes (DoesTypeFollow r f) r.types i h.2 all.2
broken r f (Package i) h all = breach_refutes (DoesPackageFollow r f) r.packages i h.3 all.3

all_unit : {X : Type 0} (xs : List X) → All (λ x. Unit {0}) xs
all_unit xs = λ k d small. tt

-- the rule of a fault, as one of the parts together
pub in_range_iff : (r : ResolveView) → DoAllFollow r IdRange ↔ AreIdsInRange r
unfolding AreIdsInRange
in_range_iff r = ((λ h. h), (λ h. h))

pub named_iff : (r : ResolveView) → DoAllFollow r Unnamed ↔ AreNamed r
unfolding AreNamed
named_iff r = ((λ h. (h.2, h.0, h.3)), (λ h. (h.1, all_unit r.interfaces, h.0, h.2)))

pub match_iff : (r : ResolveView) → DoAllFollow r KeyMismatch ↔ KeysMatch r
unfolding KeysMatch
match_iff r = ((λ h. (h.0, h.1, h.3)), (λ h. (h.0, h.1, all_unit r.types, h.2)))

pub spelled_iff : (r : ResolveView) → DoAllFollow r BadCharacter ↔ AreNamesSpelled r
unfolding AreNamesSpelled
spelled_iff r = ((λ h. h), (λ h. h))

pub free_iff : (r : ResolveView) → DoAllFollow r ByValueResource ↔ HasNoResourceByValue r
unfolding DoAllTypesPass
free_iff r = ((λ h. (h.0, h.1, h.2)), (λ h. (h.0, h.1, h.2, all_unit r.packages)))

pub filled_iff : (r : ResolveView) → DoAllFollow r Empty ↔ HasNoEmptyType r
filled_iff r = ((λ h. h.2), (λ h. (all_unit r.worlds, all_unit r.interfaces, h, all_unit r.packages)))
