-- The imports of a component's modules that are asked about, each with the item that it is.
use Rattle.std.specs.Prelude.{ℕ, ◌+◌, true, List, [], ◌++◌, cond, is_some, length, map, Option}
use Rattle.std.specs.List.{flat_map, range_with_len, slice_get}
use Rattle.std.specs.Option.{option_and_then, option_map_or}
use Rattle.wc_why.specs.Tree.{TreeImportView}
use Rattle.wc_import_paths.specs.MainModules.{MainView, code_of}
use Rattle.wc_import_paths.specs.Rows.{bare_graph}
use Rattle.wc_names.specs.Views.{ImportView}
use Rattle.wc_paths.specs.Items.{CountsValue, counts_of}
use Rattle.wc_paths.specs.Roots.{import_item}
use Rattle.wc_read.specs.Imports.{ImportValue}
use Rattle.wc_read.specs.Modules.{ModuleValue}
use Rattle.wc_summary.specs.Leads.{as_number}
use Rattle.wc_validate.specs.Imports.Entries.{Records}
use Rattle.wc_validate.specs.Imports.Map.{imports_in}
use Rattle.wc_world.specs.Views.{ComponentWorldView, NamedWorldAdapter}
use Rattle.wc_ways.specs.Asked.{asked_interfaces, own_name}
use Rattle.wc_ways.specs.Originals.{recorded_at}
use Rattle.wc_ways.specs.Parts.{counts_in, item_named}
use Rattle.wc_ways.specs.Wanted.{WantedView, of_import}

-- an import of a part, by the names that the module has for it and what is recorded of it: it is found once for each interface to which
-- it belongs that is asked about
abbrev pub found_under : List ℕ → TreeImportView → ℕ → ℕ → List ℕ → WantedView
found_under name origin part item interface = record {
  what = of_import interface name origin;
  target = record { part = part; item = item; is_asked = true };
}

abbrev pub found_of : ℕ → List ℕ → List ℕ → ImportView → ℕ → List ℕ → WantedView
found_of part from name import item = found_under (own_name name import) (record { from = from; name = name }) part item

abbrev pub found_at : ComponentWorldView → List ℕ → ℕ → List ℕ → List ℕ → ImportView → ℕ → List WantedView
found_at w key part from name import item = map (found_of part from name import item) (asked_interfaces w key import)

-- if its item is there
abbrev pub found_with : ComponentWorldView → List ℕ → ℕ → List ℕ → List ℕ → ImportView → Option ℕ → List WantedView
found_with w key part from name import number = option_map_or (found_at w key part from name import) number []

-- the recorded imports of a module, in the order of the records
abbrev pub number_named : CountsValue → List ImportValue → List ℕ → List ℕ → Option ℕ
number_named c imports from name = option_and_then (as_number c) (item_named imports from name)

abbrev pub recorded_found : ComponentWorldView → List ℕ → ℕ → CountsValue → List ImportValue → List ℕ × (List ℕ × ImportView) → List WantedView
recorded_found w key part c imports x = found_with w key part x.0 x.1.0 x.1.1 (number_named c imports x.0 x.1.0)

abbrev pub records_found : ComponentWorldView → List ℕ → ℕ → CountsValue → List ImportValue → Records → List WantedView
records_found w key part c imports records = flat_map (recorded_found w key part c imports) (imports_in records)

-- the imports of a module that are recorded, in the order of the file
abbrev pub found_as : ComponentWorldView → List ℕ → ℕ → Option ℕ → Records → ImportValue → List WantedView
found_as w key part number records i =
    option_map_or (λ (v : ImportView). found_with w key part i.module_name i.name v number) (recorded_at records i.module_name i.name) []

abbrev pub import_found : ComponentWorldView → List ℕ → ℕ → CountsValue → List ImportValue → Records → ℕ → ImportValue → List WantedView
import_found w key part c imports records k i = found_as w key part (as_number c (import_item imports k i)) records i

abbrev pub found_in_file : ComponentWorldView → List ℕ → ℕ → CountsValue → List ImportValue → Records → ℕ → List WantedView
found_in_file w key part c imports records k = option_map_or (import_found w key part c imports records k) (slice_get imports k) []

abbrev pub imports_found : ComponentWorldView → List ℕ → ℕ → CountsValue → List ImportValue → Records → List WantedView
imports_found w key part c imports records = flat_map (found_in_file w key part c imports records) (range_with_len 0 (length imports))

-- of an adapter in the order of the file, of a library in that of the records
abbrev pub adapter_found : ComponentWorldView → List ℕ → ℕ → NamedWorldAdapter → ModuleValue → List WantedView
adapter_found w key part y m =
    cond (is_some y.1.library_info) (records_found w key part (counts_of (bare_graph m)) m.imports y.1.info.imports)
    (imports_found w key part (counts_of (bare_graph m)) m.imports y.1.info.imports)

abbrev pub adapter_found_at : ComponentWorldView → List ℕ → List ModuleValue → ℕ → List WantedView
adapter_found_at w key modules k =
    option_map_or (λ (y : NamedWorldAdapter). option_map_or (adapter_found w key (k + 1) y) (slice_get modules k) []) (slice_get w.adapters k) []

abbrev pub adapters_found : ComponentWorldView → List ℕ → List ModuleValue → List WantedView
adapters_found w key modules = flat_map (adapter_found_at w key modules) (range_with_len 0 (length w.adapters))

-- of the main module, and then of each adapter and library
abbrev pub main_found : ComponentWorldView → List ℕ → MainView → List WantedView
main_found w key main = records_found w key 0 (counts_in main) (code_of main).imports w.info.imports

abbrev pub found_in : ComponentWorldView → List ℕ → MainView → List ModuleValue → List WantedView
found_in w key main modules = main_found w key main ++ adapters_found w key modules
