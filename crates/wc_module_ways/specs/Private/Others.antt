-- The adapters and the other core modules for a main module, as the code reads them.
use Rattle.std.specs.Prelude.{All, List, map}
use Rattle.wc_read.specs.Imports.{ImportValue}
use Rattle.wc_module_ways.specs.AdapterNames.{HasNames}
use Rattle.wc_module_ways.specs.Adapters.{AreAdapters, adapter_view}
use Rattle.wc_module_ways.specs.CoreModules.{HasCore, IsCore, core_view}
use Rattle.wc_module_ways.specs.Matched.{AreMatched}
use Rattle.wc_module_ways.specs.NameLists.{AreListed}
use Rattle.wc_module_ways.specs.Modules.{InputView, given_in}
use Rattle.wc_module_ways.specs.Names.{function_pairs}
use Rattle.wc_module_ways.specs.declared.modules.Others.{Others}

-- of an input, for a main module with these imports
pub record AreOthers (i : InputView) (imports : List ImportValue) (o : Others) : Type 0 where
  pub functions : AreListed (function_pairs imports) o.functions.entries
  pub adapters : AreAdapters (function_pairs imports) i.adapter_exports i.adapters (map adapter_view o.adapters.items)
  pub core : AreMatched IsCore i.core (map core_view o.core.items)
  pub has : All HasCore o.core.items
  pub names : HasNames (given_in i) o.names.keys
