use Rattle.std.proofs.Common.{◌≡◌, ◌++◌, map, take}
use Rattle.std.specs.Option.{option_map}
use Rattle.wc_paths.specs.Counts.{counts_value}
use Rattle.wc_why.specs.Part.{begin_view}
use Rattle.wc_why.specs.Tree.{tree_root_view}
use Rattle.wc_import_paths.specs.Parts.{import_begins}
use Rattle.wc_import_paths.proofs.part.push_imports.Given as goal

abbrev pub invariant-loop-item : goal.invariant-loop-item
invariant-loop-item l =
    map begin_view l.begins.items ≡ map begin_view l.fn.begins.items ++ import_begins (counts_value l.counts) (option_map tree_root_view l.root) (take l.item-index l.items)
