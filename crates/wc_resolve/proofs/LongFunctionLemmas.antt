-- Functions at places: their ids are in range, and what is kept of them is right.
use Rattle.std.proofs.Common.{◌≡◌, ℕ, ◌-◌, ◌<◌, ◌≤◌, ◌^◌, List, ◌∷◌, length, map, take, get_or, Option, Some, None, All, arith, refl, sym, ap, ◌∙◌, subst}
use Rattle.std.specs.List.{Contains, filter_map, slice_get}
use Rattle.std.specs.Option.{option_and_then, option_map}
use Rattle.std.proofs.lemmas.Option.{slice_get_past}
use Rattle.wc_resolve.specs.declared.functions.FunctionPlace.{FunctionPlace}
use Rattle.wc_resolve.specs.declared.functions.FunctionPlace.TheVariants.{Interface, Import, Export}
use Rattle.wc_resolve.specs.declared.futures.FuturesEntry.{FuturesEntry}
use Rattle.wc_resolve.specs.declared.ids.TypeId.{TypeId}
use Rattle.wc_resolve.specs.declared.long_functions.LongFunction.{LongFunction}
use Rattle.wc_resolve.specs.Flat.{flat_of, flat_types_kept, flatten_types}
use Rattle.wc_resolve.specs.Futures.{AreFuturesEntries, EntryView, ends_from, ends_of, entry_view, function_futures, futures_from, part_for}
use Rattle.wc_resolve.specs.Kinds.{ResolveView}
use Rattle.wc_resolve.specs.LongFunctions.{IsLongFunction, function_at_place, function_of_interface, function_of_items, item_function}
use Rattle.wc_resolve.specs.Ranges.{AreIdsInRange, IsEntryIn, IsFunctionIn, IsItemIn, IsWorldIn}
use Rattle.wc_resolve.specs.Roots.{indices, passed_roots}
use Rattle.wc_resolve.specs.Views.{FunctionView, InterfaceView, ItemView, KeyView, WorldView, function_item, interface_item, type_item}
use Rattle.wc_resolve.proofs.FuturesAtLemmas.{IsPartAt, all_passed, ends_length, part_at}
use Rattle.wc_resolve.proofs.FuturesEntryLemmas.{AreReplaced, AreRight, ends_right, parts_right}
use Rattle.wc_resolve.proofs.RootsInLemmas.{passes_in}
use Rattle.wc_resolve.proofs.WellFormedLemmas.{all_get, exports_in, functions_in, imports_in, interface_names_in, item_in, worlds_in}

-- what is kept is made of what is kept of types
pub long_right : (r : ResolveView) (f : FunctionView) (e : LongFunction) (entries : List FuturesEntry) (roots : List TypeId) → AreFuturesEntries r.types (map entry_view entries)
    → IsFunctionIn (length r.types) f → function_at_place r e.place ≡ Some f → indices roots ≡ passed_roots f → e.parts.items ≡ filter_map (part_for (map entry_view entries)) roots
    → e.ends.items ≡ ends_from (map entry_view entries) 0 roots → e.flats.items ≡ take flat_types_kept (flatten_types (flat_of r.types) (map (λ p. p.1) f.params)) → IsLongFunction r e
long_right r f e entries roots all within at passed parts ends flat =
    let views : List EntryView = map entry_view entries in
    let right : AreRight r.types views roots = λ y h.
    let small : y < length r.types = passes_in (length r.types) f within y (subst (λ (z : List ℕ). Contains z y) passed h) in
    (small, all.each y small) in
    let replaced : AreReplaced r.types roots (filter_map (part_for views) roots) = parts_right r.types views roots right in (
      f,
      at,
      record {
        made = ap (λ (z : List TypeId). futures_from r.types (indices z)) parts ∙ replaced.same ∙ ap (futures_from r.types) passed;
        ended = ends ∙ ends_right r.types views roots right 0 0 refl ∙ ap (λ (z : List TypeId). ends_of r.types 0 z) (sym parts);
        within = λ p h. replaced.within p (subst (λ (z : List TypeId). Contains (indices z) p) parts h);
        flat = flat;
      },
    )

-- the future or stream at an index of what is kept
pub kept_read : (r : ResolveView) (e : LongFunction) (n : ℕ) → IsLongFunction r e
    → slice_get (futures_from r.types (indices e.parts.items)) n ≡ option_and_then (λ (f : FunctionView). slice_get (function_futures r f) n) (function_at_place r e.place)
kept_read r e n kept =
    ap (λ (z : List ℕ). slice_get z n) kept.2.made ∙ sym (ap (λ (o : Option FunctionView). option_and_then (λ (f : FunctionView). slice_get (function_futures r f) n) o) kept.1)

-- the flat types that are kept of the function at a place
pub kept_flat : (r : ResolveView) (e : LongFunction) (place : FunctionPlace) (f : FunctionView) → IsLongFunction r e → e.place ≡ place → function_at_place r place ≡ Some f
    → e.flats.items ≡ take flat_types_kept (flatten_types (flat_of r.types) (map (λ p. p.1) f.params))
kept_flat r e place f kept same at =
    let both : Some kept.0 ≡ Some f = sym kept.1 ∙ ap (function_at_place r) same ∙ at in
    let equal : kept.0 ≡ f = cc both in
    subst (λ (v : FunctionView). e.flats.items ≡ take flat_types_kept (flatten_types (flat_of r.types) (map (λ p. p.1) v.params))) equal kept.2.flat

-- the part that has it
pub kept_part : (r : ResolveView) (e : LongFunction) (i n left : ℕ) (part : TypeId) → IsLongFunction r e → i < length e.parts.items → part ≡ get_or e.parts.items i part → n < 2 ^ 32
    → get_or (0 ∷ e.ends.items) i 0 ≤ n → (i < length e.ends.items → n < get_or e.ends.items i 0) → left ≡ n - get_or (0 ∷ e.ends.items) i 0 → IsPartAt r.types e.parts.items n part left
kept_part r e i n left part kept small read bound low next left_is =
    let ends : length e.ends.items ≡ length e.parts.items = ap (λ (z : List ℕ). length z) kept.2.ended ∙ ends_length r.types e.parts.items 0 in
    part_at r.types e.parts.items e.ends.items i n left part kept.2.ended small read bound low (next (omega (arith, ends, small))) left_is

-- there are no more
pub kept_passed : (r : ResolveView) (e : LongFunction) (i n : ℕ) → IsLongFunction r e → i ≤ length e.ends.items → length e.parts.items ≤ i → n < 2 ^ 32 → get_or (0 ∷ e.ends.items) i 0 ≤ n
    → None ≡ option_and_then (λ (f : FunctionView). slice_get (function_futures r f) n) (function_at_place r e.place)
kept_passed r e i n kept within past bound low =
    sym (slice_get_past (futures_from r.types (indices e.parts.items)) n (all_passed r.types e.parts.items e.ends.items i n kept.2.ended within past bound low)) ∙ kept_read r e n kept

-- a function of an interface

some_one : (o : Option (List ℕ × FunctionView)) (f : FunctionView) → option_map (λ (e : List ℕ × FunctionView). e.1) o ≡ Some f → (e : List ℕ × FunctionView) × (o ≡ Some e) × (e.1 ≡ f)
some_one None f h = absurd (let bad : ⊥ = cc h in bad)
some_one (Some e) f h = (e, refl, (let same : e.1 ≡ f = cc h in same))

of_interface_in : (n : ℕ) (functions : List (List ℕ × FunctionView)) (k : ℕ) (f : FunctionView) → All (λ (e : List ℕ × FunctionView). IsFunctionIn n e.1) functions → function_of_interface functions k ≡ Some f
    → IsFunctionIn n f
of_interface_in n functions k f all at =
    let one = some_one (slice_get functions k) f at in
    subst (IsFunctionIn n) one.2 (all_get (λ (e : List ℕ × FunctionView). IsFunctionIn n e.1) functions k one.0 all one.1)

interface_case : (r : ResolveView) (i k : ℕ) (o : Option InterfaceView) (f : FunctionView) → AreIdsInRange r → slice_get r.interfaces i ≡ o
    → option_and_then (λ (v : InterfaceView). function_of_interface v.functions k) o ≡ Some f → IsFunctionIn (length r.types) f
interface_case r i k None f ranges at h = absurd (let bad : ⊥ = cc h in bad)
interface_case r i k (Some v) f ranges at h = of_interface_in (length r.types) v.functions k f (functions_in r v (interface_names_in r i v ranges at)) h

-- a function among a world's items

item_case : (r : ResolveView) (item : ItemView) (f : FunctionView) → IsItemIn r item → item_function item ≡ Some f → IsFunctionIn (length r.types) f
item_case r (interface_item i external) f h e = absurd (let bad : ⊥ = cc e in bad)
item_case r (function_item g) f h e = subst (IsFunctionIn (length r.types)) (let same : g ≡ f = cc e in same) h
item_case r (type_item t) f h e = absurd (let bad : ⊥ = cc e in bad)

items_case : (r : ResolveView) (items : List (KeyView × ItemView)) (k : ℕ) (o : Option (KeyView × ItemView)) (f : FunctionView) → All (IsEntryIn r) items → slice_get items k ≡ o
    → option_and_then (λ (e : KeyView × ItemView). item_function e.1) o ≡ Some f → IsFunctionIn (length r.types) f
items_case r items k None f all at h = absurd (let bad : ⊥ = cc h in bad)
items_case r items k (Some e) f all at h = item_case r e.1 f (item_in r e (all_get (IsEntryIn r) items k e all at)) h

of_items_in : (r : ResolveView) (items : List (KeyView × ItemView)) (k : ℕ) (f : FunctionView) → All (IsEntryIn r) items → function_of_items items k ≡ Some f → IsFunctionIn (length r.types) f
of_items_in r items k f all at = items_case r items k (slice_get items k) f all refl at

import_case : (r : ResolveView) (i k : ℕ) (o : Option WorldView) (f : FunctionView) → AreIdsInRange r → slice_get r.worlds i ≡ o
    → option_and_then (λ (v : WorldView). function_of_items v.imports k) o ≡ Some f → IsFunctionIn (length r.types) f
import_case r i k None f ranges at h = absurd (let bad : ⊥ = cc h in bad)
import_case r i k (Some w) f ranges at h = of_items_in r w.imports k f (imports_in r w (all_get (IsWorldIn r) r.worlds i w (worlds_in r ranges) at)) h

export_case : (r : ResolveView) (i k : ℕ) (o : Option WorldView) (f : FunctionView) → AreIdsInRange r → slice_get r.worlds i ≡ o
    → option_and_then (λ (v : WorldView). function_of_items v.exports k) o ≡ Some f → IsFunctionIn (length r.types) f
export_case r i k None f ranges at h = absurd (let bad : ⊥ = cc h in bad)
export_case r i k (Some w) f ranges at h = of_items_in r w.exports k f (exports_in r w (all_get (IsWorldIn r) r.worlds i w (worlds_in r ranges) at)) h

-- the ids of a function at a place are in range
pub function_at_in : (r : ResolveView) (place : FunctionPlace) (f : FunctionView) → AreIdsInRange r → function_at_place r place ≡ Some f → IsFunctionIn (length r.types) f
function_at_in r (Interface i k) f ranges at = interface_case r i.0 k (slice_get r.interfaces i.0) f ranges refl at
function_at_in r (Import w k) f ranges at = import_case r w.0 k (slice_get r.worlds w.0) f ranges refl at
function_at_in r (Export w k) f ranges at = export_case r w.0 k (slice_get r.worlds w.0) f ranges refl at
