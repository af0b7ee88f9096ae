-- What is asked about of a component, and its parts, as the code has them.
use Rattle.std.specs.Prelude.{◌≡◌, ℕ, List, map, not}
use Rattle.wc_why.specs.Part.{part_view}
use Rattle.wc_import_paths.specs.MainModules.{MainView}
use Rattle.wc_read.specs.Modules.{ModuleValue}
use Rattle.wc_world.specs.Views.{ComponentWorldView}
use Rattle.wc_ways.specs.Parts.{AreParts}
use Rattle.wc_ways.specs.WaysTree.{is_all, wanted_in}
use Rattle.wc_ways.specs.Private.Wanted.{wanted_view}
use Rattle.wc_ways.specs.declared.tree.Shown.{Shown}

pub record IsShown (w : ComponentWorldView) (key : List ℕ) (s : Shown) : Type 0 where
  pub main : MainView
  pub modules : List ModuleValue
  pub are_parts : AreParts w main modules (map part_view s.parts.items)
  pub wanted : map wanted_view s.wanted.items ≡ wanted_in w key main modules
  pub marked : s.marked ≡ not (is_all key)
