-- What a world has to export: the keys that modules export, and no types.
use Rattle.std.specs.Prelude.{List, ℕ, All, Contains}
use Rattle.wc_resolve.specs.Views.{KeyView, ItemView, interface_item, function_item, type_item}
use Rattle.wc_adapters.specs.Adapters.{AdapterView}
use Rattle.wc_encoder.specs.EncoderParts.{EncoderView}
use Rattle.wc_adapters.specs.Entries.{Entries, entry_keys}

-- the key is one of these exports
unfoldable pub IsExported : Entries → KeyView → Type 0
IsExported exports key = Contains (entry_keys exports) key

-- each key of an adapter's required exports is one of these exports
unfoldable pub AreRequiredExported : Entries → AdapterView → Type 0
AreRequiredExported exports a = All (IsExported exports) a.required_exports

-- each key of the required exports of all adapters is one of these exports
abbrev pub AreAllRequiredExported : Entries → List (List ℕ × AdapterView) → Type 0
AreAllRequiredExported exports adapters = All (λ a. AreRequiredExported exports a.1) adapters

-- each key of the main module's exports, and of each adapter's required ones, is one of these exports
unfoldable pub AreKeysExported : EncoderView → Entries → Type 0
AreKeysExported e exports = All (IsExported exports) e.main_module_exports × AreAllRequiredExported exports e.adapters

abbrev pub IsNoType : ItemView → Type 0
IsNoType (interface_item i external) = Unit {0}
IsNoType (function_item f) = Unit {0}
IsNoType (type_item t) = ⊥

-- exports of a world are interfaces and functions alone
abbrev pub AreNoTypes : Entries → Type 0
AreNoTypes exports = All (λ x. IsNoType x.1) exports
