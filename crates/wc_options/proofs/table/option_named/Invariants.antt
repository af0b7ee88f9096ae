use Rattle.std.proofs.Common.{◌≡◌, drop, map}
use Rattle.wc_options.specs.Table.{option_named, option_view}
use Rattle.wc_options.proofs.table.option_named.Given as goal

abbrev pub invariant-loop-option : goal.invariant-loop-option
invariant-loop-option l = option_named (map option_view (drop l.option-index l.table)) l.name ≡ option_named (map option_view l.table) l.name
