-- What the imports and exports of a world name is there, and so are the live types that are found by it.
use Rattle.std.proofs.Common.{◌≡◌, ◌∙◌, ℕ, zero, suc, ◌<◌, [], ◌∷◌, length, get_or, Option, Some, None, String, All, IfSome, refl, sym, ap, subst, List, inl, inr}
use Rattle.std.specs.List.{Contains, flat_map}
use Rattle.std.specs.Option.{option_and_then, option_map_or, option_to_list}
use Rattle.std.specs.Prelude.{slice_get}
use Rattle.std.specs.declared.alloc.Global.{Global}
use Rattle.std.proofs.lemmas.List.Elements.{Contains-append_cases, Contains-push_cases}
use Rattle.std.proofs.lemmas.List.Folds.{flat_map-map}
use Rattle.wc_resolve.specs.Live.{list_union, listing_from, listing_of, listing_rule, with_live}
use Rattle.wc_resolve.specs.Ranges.{AreIdsInRange, IsFunctionIn, IsItemIn, IsTypeIn, IsWorldIn}
use Rattle.wc_resolve.specs.Roots.{function_roots, item_roots}
use Rattle.wc_resolve.specs.TypeRules.{repeated, value_by_rule}
use Rattle.wc_resolve.specs.Views.{InterfaceView, ItemView, KeyView, TypeView, FunctionView, WorldView, function_item, interface_item, type_item}
use Rattle.wc_resolve.specs.Kinds.{LeadWithin, ResolveView, children}
use Rattle.wc_resolve.specs.declared.functions.AbiVariant.{AbiVariant}
use Rattle.wc_resolve.specs.declared.functions.Function.{Function}
use Rattle.wc_resolve.specs.declared.ids.InterfaceId.{InterfaceId}
use Rattle.wc_resolve.specs.declared.worlds.WorldKey.{WorldKey}
use Rattle.wc_resolve.proofs.AcyclicLemmas.{children_within, ids_of_types}
use Rattle.wc_resolve.proofs.ListUnionLemmas.{joined_from, with_from}
use Rattle.wc_resolve.proofs.ResourcesByValueLemmas.{kind_in}
use Rattle.wc_resolve.proofs.RootsInLemmas.{AreBelow, below_append, below_joined, below_none, below_one, function_in, item_in, outcome_in}
use Rattle.wc_maps.proofs.ListLemmas.{contains_head, contains_none, contains_tail}
use Rattle.wc_resolve.proofs.WellFormedLemmas.{all_get}
use Rattle.wc_encoder.specs.Dependencies.{AreItemsIn}
use Rattle.wc_encoder.specs.EncoderParts.{EncoderView, IsWorldOf, world_imports}
use Rattle.wc_adapters.specs.Entries.{Entries}
use Rattle.wc_names.specs.Laws.{IsImportIn}
use Rattle.wc_names.specs.Keys.{as_type, item_under}
use Rattle.wc_texts.specs.Names.{under_name}
use Rattle.wc_names.specs.Payloads.{HasPayload}
use Rattle.wc_names.specs.declared.imports.Import.{Import}
use Rattle.wc_names.specs.declared.imports.Import.TheVariants as variant
use Rattle.wc_names.specs.Views.{ImportView, import_view, PayloadTypeView, typed, unit_future, unit_stream, world_func, interface_func, imported_resource_drop, exported_resource_drop, exported_resource_new, exported_resource_rep, adapter_export, main_module_memory, main_module_export, library_item, exported_task_return, exported_task_cancel, tls_base_get, tls_base_set, wait_import, poll_import, builtin, async_value}
use Rattle.wc_validate.specs.Imports.Entries.{Records}
use Rattle.wc_validate.specs.Imports.Map.{imports_in}
use Rattle.wc_validate.specs.Requirements.{functions_of}
use Rattle.wc_validate.specs.Validate.{ModuleRecord}
use Rattle.wc_world.specs.Live.{AreImportsIn, AreImportsOf, AreListed, AreRootsIn, adapter_roots, builtin_roots, by_owner, export_roots, import_payload, import_resource, import_roots, imported_types, is_from_elsewhere, live_from, live_types, module_roots, payload_roots, world_roots}
use Rattle.wc_world.specs.Used.{UsedView}
use Rattle.wc_world.specs.Views.{NamedWorldAdapter}
use Rattle.wc_world.proofs.LiveWalkLemmas.{each_listed}
use Rattle.wc_world.proofs.OwnerLemmas.{repeats_union}
use Rattle.wc_world.proofs.UsedLemmas.{filter_from}
use Rattle.wc_resolve.proofs.WellFormedLemmas.{imports_in as world_imports_in, worlds_in}
use Rattle.wc_world.proofs.UsedWalkLemmas.{entries_in, exports_are, exports_there}

-- the resource is a type
pub resource_there : (r : ResolveView) (w : WorldView) (i : ImportView) → IsImportIn r w i → IfSome (import_resource i) (λ t. t < length r.types)
resource_there r w (world_func a b c) h = tt
resource_there r w (interface_func a b c d) h = tt
resource_there r w (imported_resource_drop a b c) h = kind_in r.types c _ h.1
resource_there r w (exported_resource_drop a b) h = kind_in r.types b _ h
resource_there r w (exported_resource_new a b) h = kind_in r.types b _ h
resource_there r w (exported_resource_rep a b) h = kind_in r.types b _ h
resource_there r w (adapter_export a b c) h = tt
resource_there r w (main_module_memory a) h = tt
resource_there r w (main_module_export a b) h = tt
resource_there r w (library_item a) h = tt
resource_there r w (exported_task_return a b c) h = tt
resource_there r w exported_task_cancel h = tt
resource_there r w (tls_base_get a) h = tt
resource_there r w (tls_base_set a) h = tt
resource_there r w wait_import h = tt
resource_there r w poll_import h = tt
resource_there r w (builtin a) h = tt
resource_there r w (async_value a b c d) h = tt

-- the future or stream has a payload, or none
pub payload_there : (r : ResolveView) (w : WorldView) (i : ImportView) → IsImportIn r w i → IfSome (import_payload i) (λ p. HasPayload r p.ty)
payload_there r w (world_func a b c) h = tt
payload_there r w (interface_func a b c d) h = tt
payload_there r w (imported_resource_drop a b c) h = tt
payload_there r w (exported_resource_drop a b) h = tt
payload_there r w (exported_resource_new a b) h = tt
payload_there r w (exported_resource_rep a b) h = tt
payload_there r w (adapter_export a b c) h = tt
payload_there r w (main_module_memory a) h = tt
payload_there r w (main_module_export a b) h = tt
payload_there r w (library_item a) h = tt
payload_there r w (exported_task_return a b c) h = tt
payload_there r w exported_task_cancel h = tt
payload_there r w (tls_base_get a) h = tt
payload_there r w (tls_base_set a) h = tt
payload_there r w wait_import h = tt
payload_there r w poll_import h = tt
payload_there r w (builtin a) h = tt
payload_there r w (async_value a b c d) h = h.1

-- a function of an interface
pub under_same : (o : Option InterfaceView) (name : List ℕ) → option_and_then (λ (v : InterfaceView). under_name v.functions name) o ≡ under_name (option_map_or (λ (v : InterfaceView). v.functions) o []) name
under_same None name = refl
under_same (Some v) name = refl

-- the function of an import, as one of an interface
function_found : (r : ResolveView) (i : ℕ) (name : List ℕ) (f : FunctionView) → option_and_then (λ (v : InterfaceView). under_name v.functions name) (slice_get r.interfaces i) ≡ Some f → Some f ≡ under_name (functions_of r i) name
function_found r i name f at = sym (sym (under_same (slice_get r.interfaces i) name) ∙ at)

pub function_there : (r : ResolveView) (i : ℕ) (name : List ℕ) (f : FunctionView) → option_and_then (λ (v : InterfaceView). under_name v.functions name) (slice_get r.interfaces i) ≡ Some f → IsFunctionIn (length r.types) f
    → IfSome (under_name (functions_of r i) name) (IsFunctionIn (length r.types))
function_there r i name f at usable = subst (λ o. IfSome o (IsFunctionIn (length r.types))) (function_found r i name f at) usable

-- what a function returns
pub outcome_there : (n : ℕ) (f : FunctionView) → IsFunctionIn n f → IfSome f.outcome (IsTypeIn n)
unfolding IsFunctionIn
outcome_there n f h = h.1.1

-- what imports of three kinds name
own_function : (r : ResolveView) (w : WorldView) (key : KeyView) (name : List ℕ) (abi : AbiVariant) → IsImportIn r w (world_func key name abi) → IfSome (item_under w.imports key) (IsItemIn r)
own_function r w key name abi (f, at, named, usable, call) = subst (λ o. IfSome o (IsItemIn r)) (sym at) usable.0

own_interface : (r : ResolveView) (w : WorldView) (key : KeyView) (k : ℕ) (name : List ℕ) (abi : AbiVariant) → IsImportIn r w (interface_func key k name abi) → k < length r.interfaces
own_interface r w key k name abi (f, small, at, usable, named, entry, call) = small

interface_function : (r : ResolveView) (w : WorldView) (key : KeyView) (k : ℕ) (name : List ℕ) (abi : AbiVariant) → IsImportIn r w (interface_func key k name abi) → IfSome (under_name (functions_of r k) name) (IsFunctionIn (length r.types))
interface_function r w key k name abi (f, small, at, usable, named, entry, call) = function_there r k name f at usable.0

own_outcome : (r : ResolveView) (w : WorldView) (key : KeyView) (interface : Option ℕ) (f : FunctionView) → IsImportIn r w (exported_task_return key interface f) → IfSome f.outcome (IsTypeIn (length r.types))
own_outcome r w key interface f (scope, usable) = outcome_there (length r.types) f usable.0

module _ (r : ResolveView) (w : WorldView) (i : ImportView) (h : IsImportIn r w i) where
  pub world_function_there : (key : KeyView) (name : List ℕ) (abi : AbiVariant) → i ≡ world_func key name abi → IfSome (item_under w.imports key) (IsItemIn r)
  world_function_there key name abi is = own_function r w key name abi (subst (IsImportIn r w) is h)

  pub interface_there : (key : KeyView) (k : ℕ) (name : List ℕ) (abi : AbiVariant) → i ≡ interface_func key k name abi → k < length r.interfaces
  interface_there key k name abi is = own_interface r w key k name abi (subst (IsImportIn r w) is h)

  pub interface_function_there : (key : KeyView) (k : ℕ) (name : List ℕ) (abi : AbiVariant) → i ≡ interface_func key k name abi → IfSome (under_name (functions_of r k) name) (IsFunctionIn (length r.types))
  interface_function_there key k name abi is = interface_function r w key k name abi (subst (IsImportIn r w) is h)

  pub task_outcome_there : (key : KeyView) (interface : Option ℕ) (f : FunctionView) → i ≡ exported_task_return key interface f → IfSome f.outcome (IsTypeIn (length r.types))
  task_outcome_there key interface f is = own_outcome r w key interface f (subst (IsImportIn r w) is h)

-- an import of no such kind
pub other_roots : (r : ResolveView) (entries : Entries) (i : Import) → ((a : WorldKey) (b : String Global) (c : AbiVariant) → i ≡ variant.WorldFunc a b c → ⊥)
    → ((a : WorldKey) (b : InterfaceId) (c : String Global) (d : AbiVariant) → i ≡ variant.InterfaceFunc a b c d → ⊥) → ((a : WorldKey) (b : Option InterfaceId) (c : Function) → i ≡ variant.ExportedTaskReturn a b c → ⊥)
    → builtin_roots (import_view i) ≡ import_roots r entries (import_view i)
other_roots r entries (variant.WorldFunc a b c) f g h = absurd (f a b c refl)
other_roots r entries (variant.InterfaceFunc a b c d) f g h = absurd (g a b c d refl)
other_roots r entries (variant.ExportedTaskReturn a b c) f g h = absurd (h a b c refl)
other_roots r entries i f g h = refl

payload_in : (r : ResolveView) (ty : PayloadTypeView) → HasPayload r ty → AreBelow (length r.types) (payload_roots ty)
payload_in r (typed t f) h = below_one (length r.types) t (elim h.1 [ inl is ↦ kind_in r.types t _ is | inr is ↦ kind_in r.types t _ is ])
payload_in r unit_future h = below_none (length r.types)
payload_in r unit_stream h = below_none (length r.types)

pub import_in : (r : ResolveView) (w : WorldView) (i : ImportView) → IsImportIn r w i → AreBelow (length r.types) (import_roots r w.imports i)
import_in r w (world_func key name abi) (f, at, named, usable, call) = subst (λ o. AreBelow (length r.types) (option_map_or (item_roots r) o [])) (sym at) (function_in (length r.types) f usable.0)
import_in r w (interface_func key i name abi) (f, small, at, usable, named, entry, call) = subst (λ o. AreBelow (length r.types) (option_map_or function_roots o [])) (function_found r i name f at) (function_in (length r.types) f usable.0)
import_in r w (imported_resource_drop a b t) h = below_one (length r.types) t (kind_in r.types t _ h.1)
import_in r w (exported_resource_drop a t) h = below_one (length r.types) t (kind_in r.types t _ h)
import_in r w (exported_resource_new a t) h = below_one (length r.types) t (kind_in r.types t _ h)
import_in r w (exported_resource_rep a t) h = below_one (length r.types) t (kind_in r.types t _ h)
import_in r w (exported_task_return a b f) (scope, usable) = outcome_in (length r.types) f.outcome (outcome_there (length r.types) f usable.0)
import_in r w (async_value a b c info) (scope, payload) = payload_in r info.ty payload
import_in r w (adapter_export a b c) h = below_none (length r.types)
import_in r w (main_module_memory a) h = below_none (length r.types)
import_in r w (main_module_export a b) h = below_none (length r.types)
import_in r w (library_item a) h = below_none (length r.types)
import_in r w exported_task_cancel h = below_none (length r.types)
import_in r w (tls_base_get a) h = below_none (length r.types)
import_in r w (tls_base_set a) h = below_none (length r.types)
import_in r w wait_import h = below_none (length r.types)
import_in r w poll_import h = below_none (length r.types)
import_in r w (builtin a) h = below_none (length r.types)

-- the types that a world imports
type_item_in : (r : ResolveView) (item : ItemView) → IsItemIn r item → AreBelow (length r.types) (option_to_list (as_type item))
type_item_in r (interface_item i external) h = below_none (length r.types)
type_item_in r (function_item f) h = below_none (length r.types)
type_item_in r (type_item t) h = below_one (length r.types) t h

types_in : (r : ResolveView) (imports : Entries) → AreItemsIn r imports → AreBelow (length r.types) (imported_types imports)
types_in r imports h =
    subst (AreBelow (length r.types)) (each_listed (λ (x : KeyView × ItemView). as_type x.1) imports)
    (below_joined (length r.types) (λ (x : KeyView × ItemView). option_to_list (as_type x.1)) imports (λ k d small. type_item_in r _ (h k d small)))

module_in : (r : ResolveView) (w : WorldView) (records : Records) → AreItemsIn r w.imports → AreImportsIn r w records → AreBelow (length r.types) (module_roots r w.imports records)
module_in r w records items imports =
    below_append (length r.types) (imported_types w.imports) _ (types_in r w.imports items)
    (subst (AreBelow (length r.types)) (sym (flat_map-map (import_roots r w.imports) (λ (x : List ℕ × (List ℕ × ImportView)). x.1.1) (imports_in records)))
    (below_joined (length r.types) (λ (x : List ℕ × (List ℕ × ImportView)). import_roots r w.imports x.1.1) (imports_in records) (λ k d small. import_in r w _ (imports k d small))))

-- the listing of a type that is there has types that are there
listing_in : (types : List TypeView) (n : ℕ) → LeadWithin types n → (turns x c : ℕ) → x < n → Contains (repeated listing_rule [] types turns x) c → c < n
listing_in types n lead zero x c small h = absurd (contains_none c h)
listing_in types n lead (suc turns) x c small h =
    elim (Contains-append_cases (flat_map (repeated listing_rule [] types turns) (children types x)) (x ∷ []) c h) [
      | inl below ↦ (let p = joined_from (repeated listing_rule [] types turns) (children types x) c below in listing_in types n lead turns p.0 c (lead x p.0 p.1) p.2)
      | inr itself ↦ elim (Contains-push_cases [] x c itself) [ inl none ↦ absurd (contains_none c none) | inr same ↦ subst (λ z. z < n) same small ]
    ]

own_listing_in : (types : List TypeView) (n : ℕ) → LeadWithin types n → (x c : ℕ) → x < n → Contains (listing_of types x) c → c < n
unfolding value_by_rule
own_listing_in types n lead x c small h = listing_in types n lead (length types) x c small h

with_in : (n : ℕ) (live : List ℕ) (x : ℕ) → AreBelow n live → x < n → AreBelow n (with_live live x)
with_in n live x h small c k = elim (with_from live x c k) [ inl old ↦ h c old | inr same ↦ subst (λ z. z < n) same small ]

union_in : (n : ℕ) (live listing : List ℕ) → AreBelow n live → AreBelow n listing → AreBelow n (list_union live listing)
union_in n live [] h k = h
union_in n live (x ∷ listing) h k = union_in n (with_live live x) listing (with_in n live x h (k x (contains_head listing x))) (λ c m. k c (contains_tail x listing c m))

pub live_from_in : (r : ResolveView) → AreIdsInRange r → (roots : List ℕ) → AreBelow (length r.types) roots → AreBelow (length r.types) (live_from r roots)
live_from_in r ids roots h =
    union_in (length r.types) [] (listing_from r.types roots) (below_none (length r.types)) (λ c k.
    let p = joined_from (listing_of r.types) roots c k in
    own_listing_in r.types (length r.types) (children_within r (ids_of_types r ids)) p.0 c (h p.0 p.1) p.2)

-- the live types of an interface
pub interface_live_in : (r : ResolveView) (item : ItemView) (types : List ℕ) → AreIdsInRange r → IsItemIn r item → types ≡ live_from r (item_roots r item) → AreBelow (length r.types) types
interface_live_in r item types ids h is = subst (AreBelow (length r.types)) (sym is) (live_from_in r ids (item_roots r item) (item_in r item ids h))

export_in : (r : ResolveView) (sets : UsedView) (item : ItemView) → AreIdsInRange r → IsItemIn r item → AreBelow (length r.types) (export_roots r sets item)
export_in r sets (interface_item i external) ids h = λ c k.
    live_from_in r ids (item_roots r (interface_item i external)) (item_in r (interface_item i external) ids h) c (filter_from (is_from_elsewhere r sets i) (live_from r (item_roots r (interface_item i external))) c k).0
export_in r sets (function_item f) ids h = item_in r (function_item f) ids h
export_in r sets (type_item t) ids h = item_in r (type_item t) ids h

pub roots_in : (r : ResolveView) (sets : UsedView) (w : WorldView) (main : ModuleRecord) (adapters : List NamedWorldAdapter) → AreIdsInRange r → AreRootsIn r w main adapters → AreBelow (length r.types) (world_roots r sets w.imports w.exports main adapters)
roots_in r sets w main adapters ids h =
    below_append (length r.types) (module_roots r w.imports main.imports) _ (module_in r w main.imports h.imports h.of_main)
    (below_append (length r.types) (adapter_roots r w.imports adapters) _
    (below_joined (length r.types) (λ (a : NamedWorldAdapter). module_roots r w.imports a.1.info.imports) adapters (λ k d small. module_in r w (get_or adapters k d).1.info.imports h.imports (h.of_adapters k d small)))
    (below_joined (length r.types) (λ (x : KeyView × ItemView). export_roots r sets x.1) w.exports (λ k d small. export_in r sets _ ids (h.exports k d small))))

-- the live types of a world are there, and none is there twice
pub live_listed : (r : ResolveView) (roots live : List ℕ) → AreIdsInRange r → AreBelow (length r.types) roots → live ≡ live_from r roots → AreListed r live
live_listed r roots live ids h is = subst (AreListed r) (sym is) (record { there = live_from_in r ids roots h; once = repeats_union [] (listing_from r.types roots) tt })

-- what the world of an encoder imports
module _ (e : EncoderView) (r : ResolveView) (index : ℕ) (w : WorldView) (same : r ≡ e.resolve) (is : index ≡ e.world) (at : slice_get r.worlds index ≡ Some w) where
  own_world : IsWorldOf e w
  own_world = subst (λ z. slice_get e.resolve.worlds z ≡ Some w) is (subst (λ (z : ResolveView). slice_get z.worlds index ≡ Some w) same at)

  pub imports_are : world_imports e ≡ w.imports
  imports_are = ap (λ o. option_map_or (λ (v : WorldView). v.imports) o []) own_world

  own_imports : (m : ModuleRecord) → AreImportsOf e m → AreImportsIn r w m.imports
  own_imports m h = subst (λ z. AreImportsIn z w m.imports) (sym same) (h w own_world)

  pub world_in : (main : ModuleRecord) (adapters : List NamedWorldAdapter) → AreIdsInRange r → AreImportsOf e main → All (λ (a : NamedWorldAdapter). AreImportsOf e a.1.info) adapters → AreRootsIn r w main adapters
  world_in main adapters ids first others = record {
    imports = entries_in r w.imports (world_imports_in r w (all_get (IsWorldIn r) r.worlds index w (worlds_in r ids) at));
    exports = exports_there r ids index w at;
    of_main = own_imports main first;
    of_adapters = λ k d small. own_imports (get_or adapters k d).1.info (others k d small);
  }

  pub live_are : (sets : UsedView) (main : ModuleRecord) (adapters : List NamedWorldAdapter) (live : List ℕ) → live ≡ live_from r (world_roots r sets w.imports w.exports main adapters) → by_owner r live ≡ by_owner e.resolve (live_types e sets main adapters)
  live_are sets main adapters live found =
      ap (by_owner r) found ∙ (ap (λ z. by_owner z (live_from z (world_roots z sets w.imports w.exports main adapters))) same
      ∙ (ap (λ z. by_owner e.resolve (live_from e.resolve (world_roots e.resolve sets z w.exports main adapters))) (sym imports_are)
      ∙ ap (λ z. by_owner e.resolve (live_from e.resolve (world_roots e.resolve sets (world_imports e) z main adapters))) (sym (exports_are e r index w same is at))))
