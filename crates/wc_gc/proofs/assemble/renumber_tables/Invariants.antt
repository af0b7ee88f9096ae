use Rattle.std.proofs.Common.{◌≡◌, map, ◌++◌, take, drop}
use Rattle.wc_read.specs.Items.{table_value}
use Rattle.wc_gc.specs.Image.{new_table}
use Rattle.wc_gc.specs.NewIndices.{new_of}
use Rattle.wc_gc.proofs.assemble.renumber_tables.Given as goal

abbrev pub invariant-loop-table : goal.invariant-loop-table
invariant-loop-table l =
    map table_value (take l.table-index l.tables) ++ map (new_table (new_of l.new)) (map table_value (drop l.table-index l.tables))
    ≡ map (new_table (new_of l.new)) (map table_value l.initial.tables)
