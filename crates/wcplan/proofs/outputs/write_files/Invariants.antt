use Rattle.std.proofs.Common.{map}
use Rattle.wcplan.specs.Program.{WritesAll, file_view}
use Rattle.wcplan.proofs.outputs.write_files.Given as goal

abbrev pub invariant-loop-path : goal.invariant-loop-path
invariant-loop-path g l = WritesAll (g.F.FileStore.held l.fn.files) (g.F.FileStore.held l.files) (map file_view l.yielded)
