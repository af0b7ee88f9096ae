-- Why ways through adapters can't be said.
use Rattle.std.specs.Prelude.{◌≡◌, ◌⊎◌, ℕ, List, Contains, None, Some}
use Rattle.std.specs.Map.{lookup}
use Rattle.std.specs.Str.{bytes_eq}
use Rattle.wc_adapters.specs.Adapters.{AdapterView}
use Rattle.wc_gc.specs.LiveItems.{IsFault, TrimInput}
use Rattle.wc_gc.specs.declared.fault.GcFault.{GcFault}
use Rattle.wc_gc.specs.declared.fault.GcFault.TheVariants.{Memory}
use Rattle.wc_validate.specs.Validate.{ModuleRecord}
use Rattle.wc_world.specs.Views.{ComponentWorldView, NamedWorldAdapter}
use Rattle.wc_ways.specs.Originals.{required_exports}

-- the bytes of an adapter, and the exports for which it was trimmed
abbrev pub search_input : ComponentWorldView → List ℕ → ModuleRecord → List ℕ → TrimInput
search_input w name info wasm = record { bytes = wasm; required = required_exports w name info }

-- an adapter, as the encoder has it, has this fault, which comes before other ones of it
abbrev pub IsOriginalFault : ComponentWorldView → List ℕ → ModuleRecord → GcFault → Type 0
IsOriginalFault w name info f =
    (a : AdapterView) × (lookup (bytes_eq name) w.encoder.adapters ≡ Some a) × IsFault (search_input w name info a.wasm) f

abbrev pub IsAdapterFault : ComponentWorldView → NamedWorldAdapter → GcFault → Type 0
IsAdapterFault w y f = (y.1.library_info ≡ None) × IsOriginalFault w y.0 y.1.info f

-- memory ran out; or an adapter has the fault
abbrev pub IsWaysFault : ComponentWorldView → GcFault → Type 0
IsWaysFault w f = (f ≡ Memory) ⊎ ((y : NamedWorldAdapter) × Contains w.adapters y × IsAdapterFault w y f)
