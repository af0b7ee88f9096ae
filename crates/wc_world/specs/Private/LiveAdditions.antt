-- Live types that are added after others.
use Rattle.std.specs.Prelude.{◌≡◌, ◌==◌, ◌&&◌, ℕ, List, [], ◌++◌, Bool, Contains, Option, Result, OnOk, String, true, string_bytes}
use Rattle.std.specs.List.{flat_map, list_any}
use Rattle.std.specs.Option.{option_eq, option_map_or}
use Rattle.std.specs.String.{string_eq}
use Rattle.std.specs.declared.alloc.Global.{Global}
use Rattle.wc_resolve.specs.declared.ids.InterfaceId.{InterfaceId}
use Rattle.wc_resolve.specs.Live.{AddsListings, listing_from}
use Rattle.wc_resolve.specs.Kinds.{ResolveView}
use Rattle.wc_adapters.specs.Entries.{Entries}
use Rattle.wc_validate.specs.Imports.Entries.{Records}
use Rattle.wc_validate.specs.Imports.Map.{imports_in}
use Rattle.wc_world.specs.Live.{import_roots, named_function_roots}
use Rattle.wc_world.specs.Slots.{imports_of}

-- the types that the recorded imports of a module need
abbrev pub imports_roots : ResolveView → Entries → Records → List ℕ
imports_roots r imports records = flat_map (import_roots r imports) (imports_of (imports_in records))

-- on success the listings of these types were added after those of others, among which are the known types
abbrev pub AddsAfterOnOk : {T E : Type 0} → Result T E → ResolveView → List ℕ → List ℕ → List ℕ → List ℕ → Type 0
AddsAfterOnOk result r known old new roots =
    (start before : List ℕ) → ((t : ℕ) → Contains known t → Contains before t) → AddsListings r start old before → OnOk result (AddsListings r start new (before ++ roots))

-- a function by its interface, if it has one, and its name
abbrev pub FunctionKey : Type 0
FunctionKey = Option InterfaceId × String Global

abbrev pub same_function : FunctionKey → FunctionKey → Bool
same_function a b = option_eq (λ i j. i.0 == j.0) a.0 b.0 && string_eq a.1 b.1

-- the types that the function of an interface needs, by its key
abbrev pub key_roots : ResolveView → FunctionKey → List ℕ
key_roots r f = option_map_or (λ (i : InterfaceId). named_function_roots r i.0 (string_bytes f.1)) f.0 []

-- the listings of these functions of interfaces are live
abbrev pub HaveListings : ResolveView → List FunctionKey → List ℕ → Type 0
HaveListings r keys live = (f : FunctionKey) → list_any (same_function f) keys ≡ true → (t : ℕ) → Contains (listing_from r.types (key_roots r f)) t → Contains live t
