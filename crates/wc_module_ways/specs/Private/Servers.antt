-- The modules that serve functions to the main module, as the code keeps them.
use Rattle.std.specs.Prelude.{ℕ, List, map}
use Rattle.wc_read.specs.Exports.{ExportValue, export_value}
use Rattle.wc_paths.specs.Counts.{counts_value}
use Rattle.wc_paths.specs.Items.{CountsValue}
use Rattle.wc_module_ways.specs.Servers.{ServerView}
use Rattle.wc_module_ways.specs.declared.server.Server.{Server}

abbrev pub server_by : List ℕ → List ExportValue → CountsValue → ServerView
server_by name exports c = record { name = name; exports = exports; counts = c }

abbrev pub server_view : Server → ServerView
server_view s = server_by s.name.now (map export_value s.exports.now) (counts_value s.counts)
