-- What is looked up in a well-formed `Resolve` is in range, and functions can be used.
use Rattle.std.proofs.Common.{◌≡◌, ℕ, ◌<◌, Bool, true, false, cond, List, [], ◌∷◌, length, Option, Some, None, All, refl, ap, subst}
use Rattle.std.specs.Prelude.{slice_get}
use Rattle.std.specs.Map.{lookup}
use Rattle.std.specs.Option.{option_and_then}
use Rattle.std.proofs.lemmas.List.Elements.{All-head, All-tail, All-weaker}
use Rattle.wc_resolve.specs.Ranges.{AreNamesIn, IsEntryIn, IsFunctionIn, IsInterfaceIn, IsItemIn, IsKeyIn, IsWorldIn}
use Rattle.wc_resolve.specs.Views.{KeyView, plain_key, ItemView, function_item, type_item, FunctionView, InterfaceView, WorldView}
use Rattle.wc_resolve.specs.WellFormed.{IsFree, IsUsable, IsWellFormed}
use Rattle.wc_resolve.specs.Kinds.{ResolveView, DoAllTypesPass, DoesInterfacePass, DoesItemPass, DoesWorldPass, SignatureHasOnly}
use Rattle.wc_names.specs.Keys.{as_type, function_at, item_under, type_named, world_entries}
use Rattle.wc_texts.specs.Names.{under_name}
use Rattle.wc_resolve.proofs.WellFormedLemmas.{all_get, interfaces_in, item_in, key_in, worlds_in}
use Rattle.wc_names.proofs.RangeLemmas.{as_function_is}
use Rattle.wc_names.proofs.KeyLemmas.{entries_in_range as entries_in}

module _ {K X : Type 0} (P : K × X → Type 0) (test : K → Bool) where
  found_step : (e : K × X) (es : List (K × X)) (x : X) (b : Bool) → P e → (lookup test es ≡ Some x → (k : K) × P (k, x))
      → cond b (Some e.1) (lookup test es) ≡ Some x → (k : K) × P (k, x)
  found_step e es x true here rest is = (e.0, subst (λ z. P (e.0, z)) (let same : e.1 ≡ x = cc is in same) here)
  found_step e es x false here rest is = rest is

  -- what holds of all entries holds of the one that is found
  pub holds_of_found : (es : List (K × X)) (x : X) → All P es → lookup test es ≡ Some x → (k : K) × P (k, x)
  holds_of_found [] x all is = absurd (let bad : ⊥ = cc is in bad)
  holds_of_found (e ∷ es) x all is = found_step e es x (test e.0) (All-head P e es all) (λ h. holds_of_found es x (All-tail P e es all) h) is

-- the world at an index is in range
pub world_in_range : (r : ResolveView) (k : ℕ) (w : WorldView) → IsWellFormed r → slice_get r.worlds k ≡ Some w → IsWorldIn r w
world_in_range r k w formed at = all_get (IsWorldIn r) r.worlds k w (worlds_in r formed.in_range) at

-- what a world imports or exports is in range, and so are its keys
pub entries_in_range : (r : ResolveView) (w : WorldView) (k : ℕ) (imported : Bool) → IsWellFormed r → slice_get r.worlds k ≡ Some w
    → All (IsEntryIn r) (world_entries w imported)
entries_in_range r w k imported formed at = entries_in r w imported (world_in_range r k w formed at)

pub keys_in_range : (r : ResolveView) (w : WorldView) (k : ℕ) (imported : Bool) → IsWellFormed r → slice_get r.worlds k ≡ Some w
    → All (λ x. IsKeyIn r x.0) (world_entries w imported)
keys_in_range r w k imported formed at =
    All-weaker (IsEntryIn r) (λ x. IsKeyIn r x.0) (key_in r) (world_entries w imported) (entries_in_range r w k imported formed at)

-- the item under a key is in range
pub item_in_range : (r : ResolveView) (es : List (KeyView × ItemView)) (key : KeyView) (item : ItemView) → All (IsEntryIn r) es → item_under es key ≡ Some item
    → IsItemIn r item
item_in_range r es key item all is = let found = holds_of_found (IsEntryIn r) _ es item all is in item_in r (found.0, item) found.1

as_type_is : (o : Option ItemView) (t : ℕ) → option_and_then as_type o ≡ Some t → o ≡ Some (type_item t)
as_type_is None t is = absurd (let bad : ⊥ = cc is in bad)
as_type_is (Some (type_item u)) t is = let same : u ≡ t = cc is in ap (λ z. Some (type_item z)) same
as_type_is (Some i) t is = absurd (let bad : ⊥ = cc is in bad)

types_in : (r : ResolveView) (v : InterfaceView) → IsInterfaceIn r v → All (λ e. e.1 < length r.types) v.types
unfolding IsInterfaceIn AreNamesIn
types_in r v h = h.0.0

functions_in : (r : ResolveView) (v : InterfaceView) → IsInterfaceIn r v → All (λ e. IsFunctionIn (length r.types) e.1) v.functions
unfolding IsInterfaceIn AreNamesIn
functions_in r v h = h.0.1

named_type_in : (r : ResolveView) (o : Option InterfaceView) (i : ℕ) (name : List ℕ) (t : ℕ) → IsWellFormed r → slice_get r.interfaces i ≡ o
    → option_and_then (λ (v : InterfaceView). under_name v.types name) o ≡ Some t → t < length r.types
named_type_in r None i name t formed at is = absurd (let bad : ⊥ = cc is in bad)
named_type_in r (Some v) i name t formed at is =
    (holds_of_found (λ e. e.1 < length r.types) _ v.types t (types_in r v (all_get (IsInterfaceIn r) r.interfaces i v (interfaces_in r formed.in_range) at))
    is).1

-- the type of a name is in range
pub type_in_range : (r : ResolveView) (w : WorldView) (k : ℕ) (o : Option ℕ) (name : List ℕ) (t : ℕ) → IsWellFormed r → slice_get r.worlds k ≡ Some w
    → type_named r w o name ≡ Some t → t < length r.types
type_in_range r w k None name t formed at is =
    item_in_range r w.imports (plain_key name) (type_item t) (entries_in r w true (world_in_range r k w formed at))
    (as_type_is (item_under w.imports (plain_key name)) t is)
type_in_range r w k (Some i) name t formed at is = named_type_in r (slice_get r.interfaces i) i name t formed refl is

worlds_pass : (P : _) (r : ResolveView) → DoAllTypesPass P r → All (DoesWorldPass P) r.worlds
unfolding DoAllTypesPass
worlds_pass P r h = h.0

interfaces_pass : (P : _) (r : ResolveView) → DoAllTypesPass P r → All (DoesInterfacePass P) r.interfaces
unfolding DoAllTypesPass
interfaces_pass P r h = h.1

functions_pass : (P : _) (v : InterfaceView) → DoesInterfacePass P v → All (λ e. SignatureHasOnly P e.1) v.functions
unfolding DoesInterfacePass
functions_pass P v h = h

items_pass : (P : _) (w : WorldView) (imported : Bool) → DoesWorldPass P w → All (λ e. DoesItemPass P e.1) (world_entries w imported)
unfolding DoesWorldPass
items_pass P w true h = h.0
items_pass P w false h = h.1

named_function_usable : (r : ResolveView) (o : Option InterfaceView) (i : ℕ) (name : List ℕ) (f : FunctionView) → IsWellFormed r → slice_get r.interfaces i ≡ o
    → option_and_then (λ (v : InterfaceView). under_name v.functions name) o ≡ Some f → IsUsable r f
named_function_usable r None i name f formed at is = absurd (let bad : ⊥ = cc is in bad)
named_function_usable r (Some v) i name f formed at is = (
  (holds_of_found (λ e. IsFunctionIn (length r.types) e.1) _ v.functions f
      (functions_in r v (all_get (IsInterfaceIn r) r.interfaces i v (interfaces_in r formed.in_range) at)) is).1,
  (holds_of_found (λ e. SignatureHasOnly (IsFree r.types) e.1) _ v.functions f
      (functions_pass (IsFree r.types) v (all_get (DoesInterfacePass (IsFree r.types)) r.interfaces i v
      (interfaces_pass (IsFree r.types) r formed.no_resource_by_value) at)) is).1,
)

-- the function of a name can be used
pub function_usable : (r : ResolveView) (w : WorldView) (k : ℕ) (imported : Bool) (o : Option ℕ) (name : List ℕ) (f : FunctionView) → IsWellFormed r
    → slice_get r.worlds k ≡ Some w
    → function_at r w imported o name ≡ Some f → IsUsable r f
function_usable r w k imported None name f formed at is =
    let there = as_function_is (item_under (world_entries w imported) (plain_key name)) f is in (
      item_in_range r (world_entries w imported) (plain_key name) (function_item f) (entries_in r w imported (world_in_range r k w formed at)) there,
      (holds_of_found (λ e. DoesItemPass (IsFree r.types) e.1) _ (world_entries w imported) (function_item f)
          (items_pass (IsFree r.types) w imported (all_get (DoesWorldPass (IsFree r.types)) r.worlds k w
          (worlds_pass (IsFree r.types) r formed.no_resource_by_value) at)) there).1,
    )
function_usable r w k imported (Some i) name f formed at is = named_function_usable r (slice_get r.interfaces i) i name f formed refl is
