-- The modules that serve functions to the main module, each under its name: the part after the main module at each position.
use Rattle.std.specs.Prelude.{ℕ, List, [], ◌++◌, cond, map}
use Rattle.wc_read.specs.Exports.{ExportValue}
use Rattle.wc_paths.specs.Items.{CountsValue, counts_of}
use Rattle.wc_import_paths.specs.Following.{graph_in}
use Rattle.wc_import_paths.specs.Rows.{bare_graph}
use Rattle.wc_module_ways.specs.Adapters.{AdapterView}
use Rattle.wc_module_ways.specs.CoreModules.{CoreView, followed_core, library_core}

-- its name, the exports that it serves, and how many items it has
pub record ServerView : Type 0 where
  pub name : List ℕ
  pub exports : List ExportValue
  pub counts : CountsValue

abbrev pub adapter_server : AdapterView → ServerView
adapter_server a = record { name = a.name; exports = a.code.exports; counts = counts_of (bare_graph a.code) }

-- a core module that doesn't serve its name, and a library, serve nothing
abbrev pub core_server : CoreView → ServerView
core_server (followed_core name serves bytes f) = record { name = name; exports = cond serves f.code.exports []; counts = counts_of (graph_in f) }
core_server (library_core name bytes m) = record { name = name; exports = []; counts = counts_of (bare_graph m) }

abbrev pub servers_of : List AdapterView → List CoreView → List ServerView
servers_of adapters cores = map adapter_server adapters ++ map core_server cores
