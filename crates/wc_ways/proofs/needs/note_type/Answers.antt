use Rattle.std.proofs.Common.{length}
use Rattle.wc_ways.specs.Private.Needs.{noted_in, root_view}
use Rattle.wc_ways.proofs.NeedLemmas.{missing_type, type_past}
use Rattle.wc_ways.proofs.needs.note_type.Goals as goal

pub returns-else-has_type : goal.returns-else-has_type
returns-else-has_type c =
    let g = c.args.needing.now in
    missing_type g.resolve.now (root_view g.root) c.args.id.0 (noted_in c.args.found.now)
    (type_past c.args.id.0 (length g.resolve.now.types) c.has_type.result c.has_type.ensures c.if-has_type.false)
