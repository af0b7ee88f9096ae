use Rattle.std.proofs.Common.{ℕ, map, rules, string_bytes, arith, ◌∙◌, Some, ap, sym}
use Rattle.std.proofs.lemmas.List.{length-map}
use Rattle.wc_maps.proofs.ListLemmas.{view_found}
use Rattle.wc_why_text.proofs.EnumerateLemmas.{join_all, join_more}
use Rattle.wc_why_text.specs.Runs.{runs_view}
use Rattle.wc_why.specs.Tree.{TreeModuleView, tree_module_view}
use Rattle.wc_why_text.specs.TreeGraph.{cluster}
use Rattle.wc_why_text.proofs.tree_graph.clusters.Goals as goal

pub loop-index-init : goal.loop-index-init
loop-index-init c = c.new-text.ensures.bytes

pub loop-index-preserved : goal.loop-index-preserved
loop-index-preserved c =
    let at = c.index-modules-index in
    join_more (λ (e : ℕ × TreeModuleView). cluster (runs_view c.args.runs.now) e.0 e.1) (map tree_module_view c.args.modules.now) c.loop-index.index
    (tree_module_view at.result) (string_bytes c.loop-index.text) (string_bytes c.push_str.new.self) (string_bytes c.in_ok-part.part)
    (view_found tree_module_view c.args.modules.now c.loop-index.index at.result (search rules) ∙ ap (λ m. Some (tree_module_view m)) (sym at.is)) c.loop-index.invariant (search rules)
    c.in_ok-part.ensures

pub returns : goal.returns
returns c =
    join_all (λ (e : ℕ × TreeModuleView). cluster (runs_view c.args.runs.now) e.0 e.1) (map tree_module_view c.args.modules.now) c.loop-index.index
    (string_bytes c.loop-index.text) (omega (arith, length-map c.args.modules.now tree_module_view, c.loop-index-test.false)) c.loop-index.invariant
