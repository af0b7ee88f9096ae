-- What an example reads of a component's world.
use Rattle.std.specs.Prelude.{◌≡◌, ℕ, List, [], Bool, true, false, map, slice_get, string_bytes}
use Rattle.std.specs.Option.{option_map_or}
use Rattle.wc_world.specs.Views.{ComponentWorldView, LoweringKey, LoweringView, NamedWorldAdapter, direct, indirect, resource_drop}
use Rattle.wc_tests.specs.declared.examples.world.Lowered.{Lowered}
use Rattle.wc_tests.specs.declared.examples.world.Summary.{Summary}

-- an import's name, whether it is met before there is a main module, and the bits of its options
pub record LoweredView : Type 0 where
  pub name : List ℕ
  pub is_direct : Bool
  pub options : ℕ

abbrev pub lowered_view : Lowered → LoweredView
lowered_view l = record { name = string_bytes l.name; is_direct = l.is_direct; options = l.options }

abbrev pub is_direct : LoweringView → Bool
is_direct (direct options) = true
is_direct (indirect signature options) = false
is_direct (resource_drop t) = true

-- a drop has no options
abbrev pub needed_options : LoweringView → ℕ
needed_options (direct options) = options
needed_options (indirect signature options) = options
needed_options (resource_drop t) = 0

abbrev pub lowered_entry : LoweringKey × LoweringView → LoweredView
lowered_entry e = record { name = e.0.0; is_direct = is_direct e.1; options = needed_options e.1 }

-- of the first adapter, of the first interface that is imported, and of the first that types are needed of; nothing,
-- where there is none
abbrev pub first_bytes : ComponentWorldView → List ℕ
first_bytes w = option_map_or (λ (a : NamedWorldAdapter). a.1.wasm) (slice_get w.adapters 0) []

abbrev pub first_lowered : ComponentWorldView → List LoweredView
first_lowered w = option_map_or (λ e. map lowered_entry e.1.lowerings) (slice_get w.import_map 0) []

abbrev pub first_live : ComponentWorldView → List ℕ
first_live w = option_map_or (λ e. e.1) (slice_get w.live_type_imports 0) []

-- what is read is what is in the world
pub record IsSummary (w : ComponentWorldView) (s : Summary) : Type 0 where
  pub trimmed : s.trimmed.items ≡ first_bytes w
  pub lowered : map lowered_view s.lowered.items ≡ first_lowered w
  pub live : map (λ t. t.0) s.live.items ≡ first_live w
