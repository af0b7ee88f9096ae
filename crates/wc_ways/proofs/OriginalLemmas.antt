-- Faults of adapters.
use Rattle.std.proofs.Common.{◌≡◌, ◌⊎◌, ℕ, List, Contains, Some, None, subst, inl, inr}
use Rattle.std.specs.Map.{lookup}
use Rattle.std.specs.Str.{bytes_eq}
use Rattle.wc_adapters.specs.Adapters.{AdapterView}
use Rattle.wc_gc.specs.LiveItems.{IsFault, TrimInput}
use Rattle.wc_gc.specs.declared.fault.GcFault.{GcFault}
use Rattle.wc_gc.specs.declared.fault.GcFault.TheVariants.{Memory}
use Rattle.wc_world.specs.Views.{ComponentWorldView, NamedWorldAdapter}
use Rattle.wc_ways.specs.WaysFaults.{IsAdapterFault, IsWaysFault, search_input}

-- the same of these names of exports
abbrev pub input_of : List ℕ → List (List ℕ) → TrimInput
input_of wasm required = record { bytes = wasm; required = required }

pub fault_for : (wasm : List ℕ) (names required : List (List ℕ)) (f : GcFault) → names ≡ required → IsFault (input_of wasm names) f
    → (f ≡ Memory) ⊎ IsFault (input_of wasm required) f
fault_for wasm names required f same h = inr (subst (λ (ns : List (List ℕ)). IsFault (input_of wasm ns) f) same h)

pub adapter_fault : (w : ComponentWorldView) (y : NamedWorldAdapter) (a : AdapterView) (bytes : List ℕ) (f : GcFault) → y.1.library_info ≡ None
    → lookup (bytes_eq y.0) w.encoder.adapters ≡ Some a → bytes ≡ a.wasm → (f ≡ Memory) ⊎ IsFault (search_input w y.0 y.1.info bytes) f → (f ≡ Memory) ⊎ IsAdapterFault w y f
adapter_fault w y a bytes f trimmed at is (inl memory) = inl memory
adapter_fault w y a bytes f trimmed at is (inr fault) =
    inr (trimmed, (a, at, subst (λ (b : List ℕ). IsFault (search_input w y.0 y.1.info b) f) is fault))

-- the fault of an adapter is one of those that may come
pub fault_of : (w : ComponentWorldView) (y : NamedWorldAdapter) (f : GcFault) → Contains w.adapters y → (f ≡ Memory) ⊎ IsAdapterFault w y f → IsWaysFault w f
fault_of w y f there (inl memory) = inl memory
fault_of w y f there (inr fault) = inr (y, there, fault)
