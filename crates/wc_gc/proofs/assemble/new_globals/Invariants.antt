use Rattle.std.proofs.Common.{◌≡◌, map, take}
use Rattle.wc_read.specs.Items.{item_value}
use Rattle.wc_read.specs.Decoded.{global_code}
use Rattle.wc_gc.specs.Image.{new_global}
use Rattle.wc_gc.specs.NewBodies.{init_written}
use Rattle.wc_gc.specs.NewIndices.{new_of}
use Rattle.wc_gc.proofs.assemble.new_globals.Given as goal

abbrev pub invariant-loop-global : goal.invariant-loop-global
invariant-loop-global l = map (item_value init_written) l.items.items ≡ map (λ g. new_global (new_of l.new) (global_code g)) (take l.global-index l.globals)
