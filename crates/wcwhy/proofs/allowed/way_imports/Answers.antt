use Rattle.std.proofs.Common.{[], map}
use Rattle.wc_read.specs.Imports.{import_value}
use Rattle.wc_why.specs.Tree.{tree_way_view}
use Rattle.wc_import_paths.proofs.PickedLemmas.{joined_more}
use Rattle.wcwhy.specs.Allowed.{module_names, way_module}
use Rattle.wcwhy.proofs.allowed.way_imports.Goals as goal

pub loop-way-preserved : goal.loop-way-preserved
loop-way-preserved c =
    joined_more tree_way_view way_module c.args.ways.now c.loop-way.way-index _ [] (module_names (map import_value c.loop-way.imports.items))
    (module_names (map import_value c.push_import.new.imports.items)) c.loop-way-test.true c.loop-way.invariant c.in_ok-push_import.ensures
