use Rattle.std.proofs.Common.{ℕ, map, ap, rules, sym, append-nil, arith}
use Rattle.std.proofs.lemmas.List.{length-map}
use Rattle.wc_why_text.proofs.EnumerateLemmas.{put_all, put_copy}
use Rattle.wc_why_text.specs.Runs.{item_end, source}
use Rattle.wc_why.specs.Tree.{TreeItemView, tree_item_view, tree_root_view}
use Rattle.wc_why_text.proofs.runs.put_item_ends.Goals as goal

pub loop-position-init : goal.loop-position-init
loop-position-init c = sym (append-nil c.args.ends.now.items)

pub loop-position-preserved : goal.loop-position-preserved
loop-position-preserved c =
    put_copy tree_item_view (λ (e : ℕ × TreeItemView). item_end (c.args.index, e.0) (source c.args.index (map tree_root_view c.args.roots.now) e.1))
    c.args.items.now c.loop-position.position _ c.args.ends.now.items c.loop-position.ends.items c.put_end.new.ends.items
    (item_end (c.args.index, c.loop-position.position) c.source-from.result) (search rules) c.loop-position.invariant c.in_ok-put_end.ensures
    (ap (item_end (c.args.index, c.loop-position.position)) c.source-from.ensures)

pub returns : goal.returns
returns c =
    put_all (λ (e : ℕ × TreeItemView). item_end (c.args.index, e.0) (source c.args.index (map tree_root_view c.args.roots.now) e.1))
    (map tree_item_view c.args.items.now) c.loop-position.position c.args.ends.now.items c.loop-position.ends.items
    (omega (arith, length-map c.args.items.now tree_item_view, c.loop-position-test.false)) c.loop-position.invariant
