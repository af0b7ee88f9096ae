-- Look-ups by keys and names, and what they find in a `Resolve` that is well-formed.
use Rattle.std.proofs.Common.{◌≡◌, ◌≢◌, ℕ, zero, suc, ◌<◌, Bool, true, false, cond, List, [], ◌∷◌, map, length, String, Option, Some, None, refl, sym, ap, subst, ◌∙◌}
use Rattle.std.specs.Prelude.{slice_get, All}
use Rattle.std.specs.Map.{lookup}
use Rattle.std.specs.Option.{option_and_then, option_map}
use Rattle.std.specs.Str.{bytes_eq}
use Rattle.std.specs.declared.alloc.Global.{Global}
use Rattle.std.proofs.lemmas.Option.{slice_get-map}
use Rattle.std.proofs.lemmas.List.Elements.{All-head, All-tail}
use Rattle.wc_resolve.specs.declared.functions.Function.{Function}
use Rattle.wc_resolve.specs.declared.worlds.WorldKey.{WorldKey}
use Rattle.wc_resolve.specs.declared.worlds.WorldKey.TheVariants.{Name, Interface as InterfaceKey}
use Rattle.wc_resolve.specs.declared.worlds.WorldItem.{WorldItem}
use Rattle.wc_resolve.specs.declared.worlds.WorldItem.TheVariants.{Function as FunctionItem}
use Rattle.wc_resolve.specs.LongFunctions.{function_of_interface, function_of_items, item_function as function_of_item}
use Rattle.wc_resolve.specs.contracts.worlds.WorldKeyPartialEq.TheImpl.{eq-value as world_key_eq}
use Rattle.wc_resolve.specs.Resolve.{package_name_at}
use Rattle.wc_resolve.specs.Ranges.{AreIdsInRange, AreNamesIn, IsEntryIn, IsFunctionIn, IsItemIn, IsWorldIn}
use Rattle.wc_resolve.specs.Views.{FunctionView, InterfaceView, ItemView, KeyView, PackageView, PackageNameView, WorldView, function_item, interface_item, plain_key, type_item, function_entry, function_view, key_view, item_view, world_entry}
use Rattle.wc_resolve.specs.WellFormed.{HaveDistinctNames}
use Rattle.wc_resolve.specs.Kinds.{ResolveView}
use Rattle.wc_resolve.proofs.ViewedLemmas.{all_unviewed}
use Rattle.wc_maps.proofs.LookupLemmas.{lookup_viewed}
use Rattle.wc_resolve.proofs.WellFormedLemmas.{all_get, interface_names_in}
use Rattle.wc_maps.proofs.PairLemmas.{pairs_head, pairs_tail}
use Rattle.wc_adapters.specs.Entries.{Entries}
use Rattle.wc_names.specs.Keys.{as_function, as_type, function_at, key_eq, item_under, type_named, world_entries}
use Rattle.wc_texts.specs.Names.{under_name}

-- keys are equal where contracts see equal keys
pub keys_viewed : (a b : WorldKey) → world_key_eq.it a b ≡ key_eq (key_view a) (key_view b)
keys_viewed (Name n) (Name m) = refl
keys_viewed (Name n) (InterfaceKey j) = refl
keys_viewed (InterfaceKey i) (Name m) = refl
keys_viewed (InterfaceKey i) (InterfaceKey j) = refl

-- the item under a key
pub item_viewed : (key : WorldKey) (es : List (WorldKey × WorldItem))
    → option_map item_view (lookup (world_key_eq.it key) es) ≡ item_under (map world_entry es) (key_view key)
item_viewed key es = lookup_viewed key_view item_view (world_key_eq.it key) (key_eq (key_view key)) (keys_viewed key) es

-- the function at an index of a map, as it is found there
pub function_found_at : (es : List (String Global × Function)) (index : ℕ) (name : String Global) (f : Function) → slice_get es index ≡ Some (name, f)
    → function_of_interface (map function_entry es) index ≡ Some (function_view f)
function_found_at es index name f at =
    ap (option_map (λ (e : List ℕ × FunctionView). e.1)) (slice_get-map function_entry es index ∙ ap (option_map function_entry) at)

-- the function that an item at an index is, as it is found there
pub item_found_at : (es : List (WorldKey × WorldItem)) (index : ℕ) (key : WorldKey) (f : Function) → slice_get es index ≡ Some (key, FunctionItem f)
    → function_of_items (map world_entry es) index ≡ Some (function_view f)
item_found_at es index key f at =
    ap (option_and_then (λ (e : KeyView × ItemView). function_of_item e.1)) (slice_get-map world_entry es index ∙ ap (option_map world_entry) at)

-- no function is under a key where the item is none
pub not_a_function : (key : WorldKey) (es : List (WorldKey × WorldItem)) (i : WorldItem) → as_function (item_view i) ≡ None
    → Some i ≡ lookup (world_key_eq.it key) es → None ≡ option_and_then as_function (item_under (map world_entry es) (key_view key))
not_a_function key es i none found = sym none ∙ ap (option_and_then as_function) (ap (option_map item_view) found ∙ item_viewed key es)

-- no package after the first one has its name
other_name : (p : PackageView) (ps : List PackageView) (k : ℕ) (w : PackageView) → HaveDistinctNames (p ∷ ps) → slice_get ps k ≡ Some w → p.name ≢ w.name
other_name p ps k w distinct at =
    all_get (λ (v : PackageView). p.name ≢ v.name) ps k w (all_unviewed (λ (v : PackageView). v.name) (λ n. p.name ≢ n) ps
    (pairs_head (λ m n. m ≢ n) p.name (map (λ (v : PackageView). v.name) ps) distinct)) at

-- packages of one name are one
pub package_unique : (ps : List PackageView) (j k : ℕ) (v w : PackageView) → HaveDistinctNames ps → slice_get ps j ≡ Some v → slice_get ps k ≡ Some w
    → v.name ≡ w.name → v ≡ w
package_unique [] j k v w distinct at also same = absurd (let bad : ⊥ = cc at in bad)
package_unique (p ∷ ps) zero zero v w distinct at also same = let e : v ≡ w = cc (at, also) in e
package_unique (p ∷ ps) zero (suc k) v w distinct at also same =
    absurd (other_name p ps k w distinct also (ap (λ (z : PackageView). z.name) (let e : p ≡ v = cc at in e) ∙ same))
package_unique (p ∷ ps) (suc j) zero v w distinct at also same =
    absurd (other_name p ps j v distinct at (ap (λ (z : PackageView). z.name) (let e : p ≡ w = cc also in e) ∙ sym same))
package_unique (p ∷ ps) (suc j) (suc k) v w distinct at also same =
    package_unique ps j k v w (pairs_tail (λ m n. m ≢ n) p.name (map (λ (v : PackageView). v.name) ps) distinct) at also same

pub package_name_is : (ps : List PackageView) (k : ℕ) (v : PackageView) (p : PackageNameView) → package_name_at ps k ≡ Some p → slice_get ps k ≡ Some v
    → v.name ≡ p
package_name_is ps k v p is_named at =
    let e : Some v.name ≡ Some p = sym (ap (λ o. option_map (λ (z : PackageView). z.name) o) at) ∙ is_named in cc e

-- what is found under a key or a name passes, if all entries do, and its key does by the test
pub lookup_passes : {K X : Type 0} (P : K × X → Type 0) (test : K → Bool) (es : List (K × X)) (x : X) → All P es → lookup test es ≡ Some x
    → (k : K) × P (k, x) × (test k ≡ true)
lookup_passes P test [] x all is = absurd (let bad : ⊥ = cc is in bad)
lookup_passes {K} {X} P test (e ∷ es) x all is = at (test e.0) refl is (λ rest. lookup_passes P test es x (All-tail P e es all) rest) where
  at : (b : Bool) → test e.0 ≡ b → cond b (Some e.1) (lookup test es) ≡ Some x → (lookup test es ≡ Some x → (k : K) × P (k, x) × (test k ≡ true))
      → (k : K) × P (k, x) × (test k ≡ true)
  at true passes same later = (e.0, subst (λ (z : X). P (e.0, z)) (let h : e.1 ≡ x = cc same in h) (All-head P e es all), passes)
  at false passes same later = later same

-- the function of an item, and the type of one, are in range with it
item_function : (r : ResolveView) (o : Option ItemView) (f : FunctionView) → ((i : ItemView) → o ≡ Some i → IsItemIn r i)
    → option_and_then as_function o ≡ Some f → IsFunctionIn (length r.types) f
item_function r None f in_range is = absurd (let bad : ⊥ = cc is in bad)
item_function r (Some (interface_item i external)) f in_range is = absurd (let bad : ⊥ = cc is in bad)
item_function r (Some (function_item g)) f in_range is = subst (IsFunctionIn (length r.types)) (let e : g ≡ f = cc is in e) (in_range (function_item g) refl)
item_function r (Some (type_item t)) f in_range is = absurd (let bad : ⊥ = cc is in bad)

item_type : (r : ResolveView) (o : Option ItemView) (t : ℕ) → ((i : ItemView) → o ≡ Some i → IsItemIn r i) → option_and_then as_type o ≡ Some t
    → t < length r.types
item_type r None t in_range is = absurd (let bad : ⊥ = cc is in bad)
item_type r (Some (interface_item i external)) t in_range is = absurd (let bad : ⊥ = cc is in bad)
item_type r (Some (function_item g)) t in_range is = absurd (let bad : ⊥ = cc is in bad)
item_type r (Some (type_item u)) t in_range is = subst (λ (z : ℕ). z < length r.types) (let e : u ≡ t = cc is in e) (in_range (type_item u) refl)

pub item_in_range : (r : ResolveView) (es : Entries) (key : KeyView) (i : ItemView) → All (IsEntryIn r) es → item_under es key ≡ Some i → IsItemIn r i
unfolding IsEntryIn
item_in_range r es key i all is = (lookup_passes (IsEntryIn r) (key_eq key) es i all is).1.1

-- what a world imports or exports is in range
pub entries_in_range : (r : ResolveView) (w : WorldView) (imported : Bool) → IsWorldIn r w → All (IsEntryIn r) (world_entries w imported)
unfolding IsWorldIn
entries_in_range r w true in_range = in_range.0
entries_in_range r w false in_range = in_range.1

interface_function : (r : ResolveView) (v : InterfaceView) (name : List ℕ) (f : FunctionView) → AreNamesIn r v → under_name v.functions name ≡ Some f
    → IsFunctionIn (length r.types) f
unfolding AreNamesIn
interface_function r v name f names is =
    (lookup_passes (λ (e : List ℕ × FunctionView). IsFunctionIn (length r.types) e.1) (bytes_eq name) v.functions f names.1 is).1

interface_type : (r : ResolveView) (v : InterfaceView) (name : List ℕ) (t : ℕ) → AreNamesIn r v → under_name v.types name ≡ Some t → t < length r.types
unfolding AreNamesIn
interface_type r v name t names is = (lookup_passes (λ (e : List ℕ × ℕ). e.1 < length r.types) (bytes_eq name) v.types t names.0 is).1

-- a function, and a type, that is found by its name is in range
pub function_in_range : (r : ResolveView) (w : WorldView) (imported : Bool) (interface : Option ℕ) (name : List ℕ) (f : FunctionView) → AreIdsInRange r
    → IsWorldIn r w → function_at r w imported interface name ≡ Some f → IsFunctionIn (length r.types) f
function_in_range r w imported None name f in_range world is =
    item_function r (item_under (world_entries w imported) (plain_key name)) f
    (λ i at. item_in_range r (world_entries w imported) (plain_key name) i (entries_in_range r w imported world) at) is
function_in_range r w imported (Some i) name f in_range world is = in_interface (slice_get r.interfaces i) refl is where
  in_interface : (o : Option InterfaceView) → slice_get r.interfaces i ≡ o → option_and_then (λ (v : InterfaceView). under_name v.functions name) o ≡ Some f
      → IsFunctionIn (length r.types) f
  in_interface None at same = absurd (let bad : ⊥ = cc same in bad)
  in_interface (Some v) at same = interface_function r v name f (interface_names_in r i v in_range at) same

pub type_in_range : (r : ResolveView) (w : WorldView) (interface : Option ℕ) (name : List ℕ) (t : ℕ) → AreIdsInRange r → IsWorldIn r w
    → type_named r w interface name ≡ Some t → t < length r.types
type_in_range r w None name t in_range world is =
    item_type r (item_under w.imports (plain_key name)) t (λ i at. item_in_range r w.imports (plain_key name) i (entries_in_range r w true world) at) is
type_in_range r w (Some i) name t in_range world is = in_interface (slice_get r.interfaces i) refl is where
  in_interface : (o : Option InterfaceView) → slice_get r.interfaces i ≡ o → option_and_then (λ (v : InterfaceView). under_name v.types name) o ≡ Some t
      → t < length r.types
  in_interface None at same = absurd (let bad : ⊥ = cc same in bad)
  in_interface (Some v) at same = interface_type r v name t (interface_names_in r i v in_range at) same
