-- What the items of a module name, as it is kept.
use Rattle.std.specs.Prelude.{◌≡◌, ℕ, Bool, []}
use Rattle.wc_read.specs.Modules.{ModuleValue}
use Rattle.wc_paths.specs.Counts.{counts_value}
use Rattle.wc_paths.specs.Items.{GraphValue, counts_of, graph_of, is_closed}
use Rattle.wc_paths.specs.Numbers.{item_at, item_count, numbers_in}
use Rattle.wc_why.specs.Rows.{AreRowsOf}
use Rattle.wc_import_paths.specs.declared.rows.ModuleRows.{ModuleRows}

-- a module without segments
abbrev pub bare_graph : ModuleValue → GraphValue
bare_graph m = graph_of m (record { elements = []; data_segments = [] })

abbrev pub is_closed_at : GraphValue → ℕ → Bool
is_closed_at g n = is_closed g (item_at (counts_of g) n)

-- these are what the items of a module name
pub record AreRowsFor (g : GraphValue) (r : ModuleRows) : Type 0 where
  pub counted : counts_value r.counts ≡ counts_of g
  pub are : AreRowsOf (item_count (counts_of g)) (numbers_in g) (is_closed_at g) r.rows.starts.items r.rows.names.items r.rows.closed.items
