-- The parts of core modules, as the code puts them.
use Rattle.std.specs.Prelude.{◌≡◌, List, ◌++◌}
use Rattle.wc_read.specs.Imports.{ImportValue}
use Rattle.wc_why.specs.Part.{PartView}
use Rattle.wc_module_ways.specs.CoreModules.{CoreView}
use Rattle.wc_module_ways.specs.CoreParts.{IsPartOfCore}
use Rattle.wc_module_ways.specs.Matched.{AreMatched}

-- those of these modules were put, after others
pub record PutsCoreParts (imports : List ImportValue) (cores : List CoreView) (old new : List PartView) : Type 0 where
  pub parts : List PartView
  pub are_parts : AreMatched (IsPartOfCore imports) cores parts
  pub put : new ≡ old ++ parts
