-- What is asked about: imports of modules, and interfaces that are imported for their types alone; and the paths to them, by where
-- they end.
use Rattle.std.specs.Prelude.{ℕ, ◌^◌, ◌-◌, false, List, codes, Option, Some, None}
use Rattle.std.specs.Option.{option_map}
use Rattle.wc_why.specs.Tree.{TreeImportView, TreeWayView}
use Rattle.wc_why.specs.declared.component.End.{End}
use Rattle.wc_why.specs.declared.component.Target.{Target}
use Rattle.wc_ways.specs.declared.needs.WorldSide.{WorldSide}
use Rattle.wc_ways.specs.declared.needs.WorldSide.TheVariants.{Imports, Exports}

-- what needs a type: nothing; what the world has under a name; or an import of the main module, of an adapter, or of a library, by the
-- position of that among the parts
pub data EndView : Type 0 where
  nowhere : EndView
  of_side : (side : WorldSide) (name : List ℕ) → EndView
  of_main : (origin : TreeImportView) → EndView
  of_adapter : (part : ℕ) (origin : TreeImportView) → EndView
  of_library : (part : ℕ) (origin : TreeImportView) → EndView

pub record TypedView : Type 0 where
  pub interface : List ℕ
  pub ty : Option (List ℕ)
  pub end : EndView

-- an import of an interface, by its own name and the names that its module has for it; or an interface that is imported for its types
-- alone
pub data WhatView : Type 0 where
  of_import : (interface name : List ℕ) (origin : TreeImportView) → WhatView
  of_types : TypedView → WhatView

-- and the item at the end of the path to it
pub record WantedView : Type 0 where
  pub what : WhatView
  pub target : Target

-- an item that isn't there
abbrev pub no_target : Target
no_target = record { part = 2 ^ 64 - 1; item = 2 ^ 64 - 1; is_asked = false }

-- the path to an import, by where it ends
abbrev pub import_way : List ℕ → List ℕ → TreeImportView → End → TreeWayView
import_way interface name origin e = record {
  interface = Some interface;
  function = None;
  name = Some name;
  module_index = Some e.«module»;
  item = Some e.item;
  origin = Some origin;
  ty = None;
}

-- the path to the types of an interface

abbrev pub way_with : TypedView → Option ℕ → Option ℕ → Option TreeImportView → TreeWayView
way_with v part item origin = record {
  interface = Some v.interface;
  function = None;
  name = None;
  module_index = part;
  item = item;
  origin = origin;
  ty = v.ty;
}

-- the text that stands for a module at what the world itself imports or exports
abbrev pub side_text : WorldSide → List ℕ
side_text Imports = codes "world imports"
side_text Exports = codes "world exports"

-- by the import at which it ends, and its item; where no path leads to that, it ends nowhere
abbrev pub ended_way : TypedView → TreeImportView → Option End → TreeWayView
ended_way v origin None = way_with v None None None
ended_way v origin (Some e) = way_with v (Some e.«module») (Some e.item) (Some origin)

abbrev pub typed_way_by : TypedView → EndView → Option End → TreeWayView
typed_way_by v nowhere end = way_with v None None None
typed_way_by v (of_side side name) end = way_with v None None (Some (record { from = side_text side; name = name }))
typed_way_by v (of_main origin) end = ended_way v origin end
typed_way_by v (of_adapter part origin) end = ended_way v origin end
typed_way_by v (of_library part origin) end = way_with v (Some part) None (Some origin)

abbrev pub typed_way : TypedView → Option End → TreeWayView
typed_way v end = typed_way_by v v.end end

-- the path to what is asked about; none to an import to which no path leads
abbrev pub way_to : WhatView → Option End → Option TreeWayView
way_to (of_import interface name origin) end = option_map (import_way interface name origin) end
way_to (of_types v) end = Some (typed_way v end)

abbrev pub way_of : WantedView → Option End → Option TreeWayView
way_of v end = way_to v.what end
