use Rattle.std.proofs.Common.{◌≡◌, ◌++◌, Some, map}
use Rattle.wc_world.specs.WorldViews.{adapter_entry, world_view}
use Rattle.wcplan.specs.Program.{adapter_file, file_view, files_of}
use Rattle.wcplan.proofs.outputs.files_in.Given as goal

abbrev pub invariant-loop-name : goal.invariant-loop-name
invariant-loop-name l =
    map file_view l.outputs.items ++ map (adapter_file l.directory) (map adapter_entry l.name-iterator) ≡ files_of (Some l.directory) (world_view l.world)
