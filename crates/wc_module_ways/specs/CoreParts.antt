-- Core modules of a component's file as its parts.
use Rattle.std.specs.Prelude.{ℕ, Bool, not, List, [], cond, filter, map}
use Rattle.std.specs.Option.{option_map_or}
use Rattle.wc_read.specs.Exports.{ExportValue}
use Rattle.wc_read.specs.Imports.{ImportValue}
use Rattle.wc_paths.specs.Callers.{Calling, IsCalling}
use Rattle.wc_maps.specs.Texts.{is_in}
use Rattle.wc_texts.specs.Names.{first_occurrences}
use Rattle.wc_why.specs.Part.{PartView}
use Rattle.wc_import_paths.specs.Following.{FollowedView, first_in, graph_in, second_in}
use Rattle.wc_import_paths.specs.Parts.{IsCorePart, IsLibraryPart}
use Rattle.wc_component_file.specs.Renamed.{original_import_name}
use Rattle.wc_module_ways.specs.CoreModules.{CoreView, followed_core, library_core}
use Rattle.wc_module_ways.specs.Names.{function_pairs, names_under}

-- the name of the export to which an import of this name is linked, of exports of these names: this one, or where none has it the one before
-- its version
abbrev pub linked_name : List (List ℕ) → List ℕ → List ℕ
linked_name names name = cond (is_in names name) name (option_map_or (λ (n : List ℕ). n) (original_import_name name) name)

-- the names of the exports that the main module imports, of a module that serves its name, each once, in the order of these imports
abbrev pub linked_names : List ImportValue → List ℕ → Bool → List ExportValue → List (List ℕ)
linked_names imports name serves exports =
    first_occurrences (map (linked_name (map (λ (e : ExportValue). e.name) exports)) (cond serves (names_under (function_pairs imports) name) []))

-- the exports that the main module doesn't import, in the order of the file
abbrev pub unlinked : List (List ℕ) → List ExportValue → List ExportValue
unlinked names exports = filter (λ (e : ExportValue). not (is_in names e.name)) exports

-- the part of a core module that is followed, with who may call through tables in it; and that of a library
pub record IsFollowedCorePart (imports : List ImportValue) (name : List ℕ) (serves : Bool) (bytes : List ℕ) (f : FollowedView) (p : PartView) : Type 0 where
  pub calling : Calling
  pub is_calling : IsCalling (graph_in f) (first_in f) (second_in f) calling
  pub is_part : IsCorePart name f bytes calling (unlinked (linked_names imports name serves f.code.exports) f.code.exports) p

abbrev pub IsPartOfCore : List ImportValue → CoreView → PartView → Type 0
IsPartOfCore imports (followed_core name serves bytes f) p = IsFollowedCorePart imports name serves bytes f p
IsPartOfCore imports (library_core name bytes m) p = IsLibraryPart name m bytes p
