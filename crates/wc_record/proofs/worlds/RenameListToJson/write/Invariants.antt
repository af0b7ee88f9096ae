use Rattle.std.proofs.Common.{drop, map}
use Rattle.wc_record.specs.Worlds.{rename_json}
use Rattle.wc_record.proofs.ShapeLemmas.{PutsRest}
use Rattle.wc_record.proofs.worlds.RenameListToJson.write.Given as goal

abbrev pub invariant-loop-index : goal.invariant-loop-index
invariant-loop-index l = PutsRest l.fn.out l.out (map rename_json l.self) (map rename_json (drop l.index l.self))
