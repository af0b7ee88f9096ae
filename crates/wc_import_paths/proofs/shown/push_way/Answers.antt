use Rattle.std.proofs.Common.{◌∙◌, map, sym}
use Rattle.wc_why.specs.Tree.{tree_way_view}
use Rattle.wc_import_paths.proofs.ShownLemmas.{way_none, way_put}
use Rattle.wc_import_paths.proofs.shown.push_way.Goals as goal

pub returns-in_ok-push : goal.returns-in_ok-push
returns-in_ok-push c =
    way_put c.args.with_unreached c.args.shown.now c.args.ends.now c.args.position _ c.requires c.end_at-end.result c.end_at-end.ensures
    c.args.ways.now.items c.push.new.self.items c.way_to.result (sym c.has_way.ensures ∙ c.if-has_way.true) c.in_ok-push.ensures.items c.way_to.ensures

pub returns-else-has_way : goal.returns-else-has_way
returns-else-has_way c =
    way_none c.args.with_unreached c.args.shown.now c.args.ends.now c.args.position _ c.requires c.end_at-end.result c.end_at-end.ensures
    (map tree_way_view c.args.ways.now.items) (sym c.has_way.ensures ∙ c.if-has_way.false)
