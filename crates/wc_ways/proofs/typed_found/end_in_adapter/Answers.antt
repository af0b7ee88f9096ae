use Rattle.std.proofs.Common.{◌∙◌}
use Rattle.wc_why.specs.Tree.{tree_import_view}
use Rattle.wc_ways.proofs.TypedLemmas.{end_missing, end_there}
use Rattle.wc_ways.proofs.typed_found.end_in_adapter.Goals as goal

pub returns-then-index-len : goal.returns-then-index-len
returns-then-index-len c =
    c.end_in.ensures
    ∙ end_there c.args.world.now c.args.name.now (tree_import_view c.args.import) c.in-Some.index _ c.in-Some.adapter.now c.in-Some.ensures.index c.in-Some.ensures.entry

pub returns-in-None : goal.returns-in-None
returns-in-None c = end_missing c.args.world.now c.args.name.now (tree_import_view c.args.import) c.in-None.ensures.index
