-- Functions by their places, and what is kept of those that have more than a few parameters.
use Rattle.std.specs.Prelude.{◌≡◌, ℕ, ◌<◌, List, length, map, Contains, Option, Some, None, slice_get}
use Rattle.std.specs.Option.{option_and_then, option_map}
use Rattle.wc_resolve.specs.declared.functions.FunctionPlace.{FunctionPlace}
use Rattle.wc_resolve.specs.declared.functions.FunctionPlace.TheVariants.{Interface, Import, Export}
use Rattle.wc_resolve.specs.declared.long_functions.LongFunction.{LongFunction}
use Rattle.wc_resolve.specs.Flat.{cut, flat_of, flatten_types}
use Rattle.wc_resolve.specs.Futures.{ends_of, function_futures, futures_from}
use Rattle.wc_resolve.specs.Kinds.{ResolveView}
use Rattle.wc_resolve.specs.Roots.{indices}
use Rattle.wc_resolve.specs.Views.{FunctionView, InterfaceView, ItemView, KeyView, WorldView, function_item}

-- the function that an item is, if it is one
abbrev pub item_function : ItemView → Option FunctionView
item_function (function_item f) = Some f
item_function i = None

-- the function at an index among those of an interface, and among items
abbrev pub function_of_interface : List (List ℕ × FunctionView) → ℕ → Option FunctionView
function_of_interface functions k = option_map (λ (e : List ℕ × FunctionView). e.1) (slice_get functions k)

abbrev pub function_of_items : List (KeyView × ItemView) → ℕ → Option FunctionView
function_of_items items k = option_and_then (λ (e : KeyView × ItemView). item_function e.1) (slice_get items k)

-- the function at a place
abbrev pub function_at_place : ResolveView → FunctionPlace → Option FunctionView
function_at_place r (Interface i k) = option_and_then (λ (v : InterfaceView). function_of_interface v.functions k) (slice_get r.interfaces i.0)
function_at_place r (Import w k) = option_and_then (λ (v : WorldView). function_of_items v.imports k) (slice_get r.worlds w.0)
function_at_place r (Export w k) = option_and_then (λ (v : WorldView). function_of_items v.exports k) (slice_get r.worlds w.0)

-- the futures and streams of a function are those of these types, of which there are so many up to each; and the flat types
-- of its parameters are these, as many as are kept
pub record IsKeptOf (r : ResolveView) (f : FunctionView) (e : LongFunction) : Type 0 where
  pub made : futures_from r.types (indices e.parts.items) ≡ function_futures r f
  pub ended : e.ends.items ≡ ends_of r.types 0 e.parts.items
  pub within : (p : ℕ) → Contains (indices e.parts.items) p → p < length r.types
  pub flat : e.flats.items ≡ cut (flatten_types (flat_of r.types) (map (λ p. p.1) f.params))

-- what is kept is of the function at its place
abbrev pub IsLongFunction : ResolveView → LongFunction → Type 0
IsLongFunction r e = (f : FunctionView) × (function_at_place r e.place ≡ Some f) × IsKeptOf r f e
