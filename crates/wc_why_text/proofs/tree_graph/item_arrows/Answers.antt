use Rattle.std.proofs.Common.{ℕ, map, rules, string_bytes, arith}
use Rattle.std.proofs.lemmas.List.{length-map}
use Rattle.wc_why_text.proofs.EnumerateLemmas.{join_all, join_copy}
use Rattle.wc_why_text.specs.Runs.{runs_view}
use Rattle.wc_why.specs.Tree.{TreeItemView, tree_item_view, tree_root_view}
use Rattle.wc_why_text.specs.TreeGraph.{arrow}
use Rattle.wc_why_text.proofs.tree_graph.item_arrows.Goals as goal

pub loop-position-init : goal.loop-position-init
loop-position-init c = c.new-text.ensures.bytes

pub loop-position-preserved : goal.loop-position-preserved
loop-position-preserved c =
    join_copy tree_item_view (λ (e : ℕ × TreeItemView). arrow (runs_view c.args.runs.now) (map tree_root_view c.args.roots.now) (c.args.index, e.0) e.1) c.args.items.now
    c.loop-position.position _ (string_bytes c.loop-position.text) (string_bytes c.push_str.new.self) (string_bytes c.in_ok-part.part)
    (search rules) c.loop-position.invariant (search rules) c.in_ok-part.ensures

pub returns : goal.returns
returns c =
    join_all (λ (e : ℕ × TreeItemView). arrow (runs_view c.args.runs.now) (map tree_root_view c.args.roots.now) (c.args.index, e.0) e.1) (map tree_item_view c.args.items.now)
    c.loop-position.position (string_bytes c.loop-position.text)
    (omega (arith, length-map c.args.items.now tree_item_view, c.loop-position-test.false)) c.loop-position.invariant
