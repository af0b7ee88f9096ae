-- What names of futures and streams are looked up in.
use Rattle.std.specs.Prelude.{List, ℕ, Bool}
use Rattle.std.specs.Option.{option_map}
use Rattle.wc_resolve.specs.Dependencies.{id_of_interface}
use Rattle.wc_resolve.specs.Views.{key_view, world_view}
use Rattle.wc_names.specs.declared.async_values.AsyncValue.{AsyncValue}
use Rattle.wc_names.specs.declared.payloads.PayloadLookupContext.{PayloadLookupContext}
use Rattle.wc_names.specs.AsyncValues.{IsOwnNameImport, IsPayloadType, NamesAsyncImport}
use Rattle.wc_names.specs.Keys.{Scope}
use Rattle.wc_names.specs.Mangling.{Scheme}
use Rattle.wc_names.specs.Views.{ImportView, PayloadTypeView}

-- the key and the interface of a context
abbrev pub context_scope : PayloadLookupContext → Scope
context_scope c = record { key = option_map key_view c.key; interface = option_map id_of_interface c.id }

-- the import of a name, looked up in a context
abbrev pub NamesImportIn : Scheme → PayloadLookupContext → List ℕ → ImportView → Type 0
NamesImportIn s c name i = NamesAsyncImport s c.resolve.now (world_view c.world.now) c.imported (context_scope c) name i

-- the import of a name without its `[async-lower]`, looked up in a context
abbrev pub IsOwnNameImportIn : PayloadLookupContext → List ℕ → Bool → ImportView → Type 0
IsOwnNameImportIn c name is_async i = IsOwnNameImport c.resolve.now (world_view c.world.now) c.imported (context_scope c) name is_async i

-- the future or stream of the parts of a name, looked up in a context
abbrev pub IsPayloadTypeIn : PayloadLookupContext → AsyncValue → List ℕ → List ℕ → PayloadTypeView → Type 0
IsPayloadTypeIn c v which function ty = IsPayloadType c.resolve.now (world_view c.world.now) c.imported (context_scope c) v which function ty
