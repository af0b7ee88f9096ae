-- What an index of an export set has.
use Rattle.std.specs.Prelude.{◌≡◌, ℕ, List, [], map, String, string_bytes, All, ◌++◌, Contains, MatchOption, Option, ◌<◌, length}
use Rattle.std.specs.declared.alloc.Global.{Global}
use Rattle.std.specs.Map.{lookup}
use Rattle.std.specs.Option.{option_map_or, option_to_list}
use Rattle.std.specs.Str.{bytes_eq}
use Rattle.std.specs.declared.vec.Vec.{Vec}
use Rattle.wc_resolve.specs.Ranges.{IsItemIn}
use Rattle.wc_resolve.specs.Views.{ItemView, KeyView, key_view, plain_key}
use Rattle.wc_resolve.specs.Kinds.{ResolveView}
use Rattle.wc_adapters.specs.Entries.{Entries}
use Rattle.wc_names.specs.declared.export_names.ExportSyntax.{ExportSyntax}
use Rattle.wc_names.specs.declared.export_index.ExportedInterface.{ExportedInterface}
use Rattle.wc_names.specs.ExportNames.{interfaces_of_text, if_text, searched_interfaces}
use Rattle.wc_names.specs.Interfaces.{FoundInterface}
use Rattle.std.specs.Borrow.{Bor}
use Rattle.wc_resolve.specs.declared.worlds.WorldKey.{WorldKey}

-- an export set of a world, and how its names are put together
pub record ExportNamesView : Type 0 where
  pub syntax : ExportSyntax
  pub resolve : ResolveView
  pub exports : Entries
  pub keys : List KeyView

abbrev pub names_view : ExportSyntax → ResolveView → Entries → List KeyView → ExportNamesView
names_view x r exports keys = record { syntax = x; resolve = r; exports = exports; keys = keys }

abbrev pub exported_interface_view : ExportedInterface → FoundInterface
exported_interface_view e = (key_view e.key.now, e.id.0)

abbrev pub interfaces_view : Vec ExportedInterface Global → List FoundInterface
interfaces_view v = map exported_interface_view v.items

-- the interfaces that are listed under a text
abbrev pub listed : List (String Global × Vec ExportedInterface Global) → List ℕ → List FoundInterface
listed entries text = option_map_or interfaces_view (lookup (λ k. bytes_eq text (string_bytes k)) entries) []

-- under every text is listed what was, and after that this interface under its own text
abbrev pub ListsMore : List (String Global × Vec ExportedInterface Global) → List (String Global × Vec ExportedInterface Global) → List ℕ → FoundInterface
    → Type 0
ListsMore old new text found = (q : List ℕ) → listed new q ≡ listed old q ++ option_to_list (if_text q found.0 (text, found.1))

-- the key of an export set that is this plain key; None only where the set has none
abbrev pub FindsPlainKey : List KeyView → List ℕ → Option (Bor WorldKey) → Type 0
FindsPlainKey keys name found =
    MatchOption found (¬ Contains keys (plain_key name)) (λ (key : Bor WorldKey). (key_view key.now ≡ plain_key name) × Contains keys (plain_key name))

-- the interfaces of a text in which members of an export set are looked up
abbrev pub searched_in : ExportNamesView → List ℕ → List FoundInterface
searched_in names text = searched_interfaces names.syntax names.resolve names.exports names.keys text

-- these are the interfaces of a text in which members are looked up, and they are in range
abbrev pub AreSearched : ExportNamesView → List ℕ → List ExportedInterface → Type 0
AreSearched names text found =
    (map exported_interface_view found ≡ searched_in names text) × All (λ (e : ExportedInterface). e.id.0 < length names.resolve.interfaces) found

-- the interfaces of an export set are listed under their texts, and what the world exports is in range
pub record IsExportIndex (x : ExportSyntax) (r : ResolveView) (exports : Entries) (keys : List KeyView)
    (entries : List (String Global × Vec ExportedInterface Global)) : Type 0 where
  pub are_listed : (text : List ℕ) → listed entries text ≡ interfaces_of_text x r exports keys text
  pub are_items_in : All (λ (e : KeyView × ItemView). IsItemIn r e.1) exports
