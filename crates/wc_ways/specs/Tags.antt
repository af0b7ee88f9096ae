-- The interfaces to which belongs what modules import.
use Rattle.std.specs.Prelude.{ℕ, List, codes, map, Option}
use Rattle.std.specs.List.{slice_get}
use Rattle.std.specs.Option.{option_and_then}
use Rattle.wc_read.specs.Imports.{ImportValue}
use Rattle.wc_names.specs.Views.{ImportView}
use Rattle.wc_summary.specs.Leads.{Tags}
use Rattle.wc_validate.specs.Imports.Entries.{Records}
use Rattle.wc_validate.specs.Imports.Map.{imports_in}
use Rattle.wc_world.specs.Views.{ComponentWorldView}
use Rattle.wc_ways.specs.Asked.{asked_interfaces}
use Rattle.wc_ways.specs.Originals.{recorded_at}

-- the key that asks about all
abbrev pub all_key : List ℕ
all_key = codes "all"

-- the interface to which what a module imports belongs, by what is recorded of it: the first name under which the world imports it
abbrev pub interface_of : ComponentWorldView → ImportView → Option (List ℕ)
interface_of w import = slice_get (asked_interfaces w all_key import) 0

abbrev pub tag_in : ComponentWorldView → Records → ImportValue → Option (List ℕ)
tag_in w records i = option_and_then (interface_of w) (recorded_at records i.module_name i.name)

abbrev pub Recorded : Type 0
Recorded = List ℕ × (List ℕ × ImportView)

abbrev pub recorded_tag : ComponentWorldView → Recorded → Option (List ℕ)
recorded_tag w x = interface_of w x.1.1

-- those of all that a module imports, in its order; of a library, of which only its imports are known, in the order of their records
abbrev pub tags_in : ComponentWorldView → Records → List ImportValue → Tags
tags_in w records imports = map (tag_in w records) imports

abbrev pub library_tags : ComponentWorldView → Records → Tags
library_tags w records = map (recorded_tag w) (imports_in records)
