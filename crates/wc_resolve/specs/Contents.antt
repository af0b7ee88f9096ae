-- Strings and lists in types: in what a type contains by value, or in an alias's target, and so through the payloads of
-- futures and streams, and not through handles.
use Rattle.std.specs.Prelude.{◌≡◌, ℕ, ◌<◌, List, Bool, true, false, ◌||◌, ◌&&◌, length, slice_index_or}
use Rattle.std.specs.List.{list_any}
use Rattle.std.specs.Option.{option_map_or}
use Rattle.wc_resolve.specs.declared.types.WitType.{WitType}
use Rattle.wc_resolve.specs.declared.types.WitType.TheVariants.{String, Id}
use Rattle.wc_resolve.specs.Futures.{carried_types}
use Rattle.wc_resolve.specs.TypeRules.{Rule, value_by_rule}
use Rattle.wc_resolve.specs.Views.{KindView, list_kind, TypeView}
use Rattle.wc_resolve.specs.Kinds.{ResolveView}

-- a type has text: it is a string, or a defined type that has
abbrev pub has_text : (ℕ → Bool) → WitType → Bool
has_text defined String = true
has_text defined (Id i) = defined i.0
has_text defined t = false

abbrev pub is_list : KindView → Bool
is_list (list_kind t) = true
is_list k = false

-- a defined type has text where one of the types in it has, or, if lists are text too, where it is a list
abbrev pub text_rule : Bool → Rule Bool
text_rule lists defined x kind = option_map_or (λ (k : KindView). (lists && is_list k) || list_any (has_text defined) (carried_types k)) kind false

-- whether a defined type has text, by its index
abbrev pub text_of : Bool → List TypeView → ℕ → Bool
text_of lists types = value_by_rule (text_rule lists) false types

-- a string is in the type
abbrev pub holds_string : ResolveView → WitType → Bool
holds_string r = has_text (text_of false r.types)

-- a string or a list is in the type
abbrev pub holds_string_or_list : ResolveView → WitType → Bool
holds_string_or_list r = has_text (text_of true r.types)

-- what a table has for an index
abbrev pub text_flag : List Bool → ℕ → Bool
text_flag flags x = slice_index_or flags x false

-- a table in which each type that has text is flagged, and no other
pub record AreTextFlags (lists : Bool) (types : List TypeView) (flags : List Bool) : Type 0 where
  pub same_length : length flags ≡ length types
  pub each : (x : ℕ) → x < length types → text_flag flags x ≡ text_of lists types x
