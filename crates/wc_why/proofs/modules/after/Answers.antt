use Rattle.std.proofs.Common.{length, map}
use Rattle.wc_why.specs.Part.{part_view}
use Rattle.wc_why.specs.Private.Positions.{groups_view}
use Rattle.wc_why.proofs.ModuleLemmas.{after_by_link}
use Rattle.wc_why.proofs.modules.after.Goals as goal

pub returns : goal.returns
returns c =
    let s = c.args.shown in
    after_by_link (map part_view s.graph.parts.now) s.tree.now.items.items (length s.graph.parts.now) (groups_view s.positions.now.groups.items) s.positions.now.own.items
    c.requires.shown.placed c.args.before c.index.result.now c.index.ensures c.index-position.result.now c.index-position.ensures c.args.part c.args.item c.args.only
    c.if-other-part.false _ c.linked_root.ensures
