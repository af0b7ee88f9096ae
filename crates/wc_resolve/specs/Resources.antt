-- Flags of the types that are resources.
use Rattle.std.specs.Prelude.{◌≡◌, ◌↔◌, ℕ, ◌<◌, Bool, true, false, IsTrue, List, length, Option, Some, slice_index_or}
use Rattle.wc_resolve.specs.declared.types.WitType.{WitType}
use Rattle.wc_resolve.specs.declared.types.WitType.TheVariants.{Id}
use Rattle.wc_resolve.specs.Views.{KindView, resource_kind, alias_kind, TypeView}
use Rattle.wc_resolve.specs.Kinds.{IsResource}

-- whether a type is a resource, by the flags of others: it is one, or an alias of a type that is flagged
abbrev pub is_resource_kind : List Bool → Option KindView → Bool
is_resource_kind resource_flags (Some resource_kind) = true
is_resource_kind resource_flags (Some (alias_kind (Id i))) = slice_index_or resource_flags i.0 false
is_resource_kind resource_flags k = false

-- each type that is a resource, or an alias of one, is flagged, and no other
pub record AreResourceFlags (types : List TypeView) (resource_flags : List Bool) : Type 0 where
  pub same_length : length resource_flags ≡ length types
  pub each : (x : ℕ) → x < length types → IsTrue (slice_index_or resource_flags x false) ↔ IsResource types x

-- a type is none that is flagged
abbrev pub IsNotResource : List Bool → WitType → Type 0
IsNotResource resource_flags (Id i) = slice_index_or resource_flags i.0 false ≡ false
IsNotResource resource_flags t = Unit {0}
