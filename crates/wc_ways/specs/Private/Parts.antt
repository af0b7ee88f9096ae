-- The parts of a component and its links, as the code has them.
use Rattle.std.specs.Prelude.{◌≡◌, ℕ, List, length, MatchBool, Option, Some}
use Rattle.std.specs.List.{slice_get}
use Rattle.std.specs.Option.{option_and_then}
use Rattle.wc_why.specs.Part.{LinkView, PartView}
use Rattle.wc_import_paths.specs.MainModules.{main_graph, main_view}
use Rattle.wc_import_paths.specs.Parts.{IsAdapterPart, IsLibraryPart}
use Rattle.wc_import_paths.specs.Rows.{AreRowsFor}
use Rattle.wc_paths.specs.Counts.{counts_value}
use Rattle.wc_paths.specs.declared.items.PathItem.{PathItem}
use Rattle.wc_read.specs.Imports.{ImportValue}
use Rattle.wc_summary.specs.Leads.{as_number}
use Rattle.wc_validate.specs.Validate.{module_record}
use Rattle.wc_world.specs.WorldViews.{world_view}
use Rattle.wc_ways.specs.Originals.{recorded_at}
use Rattle.wc_ways.specs.Parts.{Linked, always_of, link_from, linked_by}
use Rattle.wc_ways.specs.Private.Modules.{AreModulesOf, code_in, codes_in}
use Rattle.wc_ways.specs.declared.modules.AdapterModule.{AdapterModule}
use Rattle.wc_ways.specs.declared.parts.Linked.{Linked as DeclaredLinked}
use Rattle.wc_ways.specs.declared.parts.Linking.{Linking}

-- an adapter or a library as a part
abbrev pub IsPartOfModule : AdapterModule → PartView → Type 0
IsPartOfModule a p =
    MatchBool a.is_library (IsLibraryPart a.name.now (code_in a) a.bytes.now p)
    (IsAdapterPart a.name.now (code_in a) a.bytes.now (always_of (module_record a.info.now) (code_in a)) p)

pub record AreAdapterParts (adapters : List AdapterModule) (parts : List PartView) : Type 0 where
  pub each : length parts ≡ length adapters
  pub at : (k : ℕ) (a : AdapterModule) (p : PartView) → slice_get adapters k ≡ Some a → slice_get parts k ≡ Some p → IsPartOfModule a p

-- the modules are those of the world
pub record CanLink (l : Linking) : Type 0 where
  pub modules : AreModulesOf (world_view l.world.now) l.modules.now
  pub rows : AreRowsFor (main_graph (main_view l.modules.now.main)) l.rows.now

abbrev pub linked_view : DeclaredLinked → Linked
linked_view l = (l.part, (l.item, l.export.now))

-- the link of an import that is this item
abbrev pub link_with : Linking → ImportValue → PathItem → Option LinkView
link_with l i item =
    option_and_then (link_from (as_number (counts_value l.rows.now.counts) item))
    (option_and_then (linked_by (world_view l.world.now) (codes_in l.modules.now)) (recorded_at (world_view l.world.now).info.imports i.module_name i.name))
