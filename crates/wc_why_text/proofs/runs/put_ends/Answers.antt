use Rattle.std.proofs.Common.{ℕ, map, rules, sym, append-nil, arith, ◌∙◌, Some, ap}
use Rattle.std.proofs.lemmas.List.{length-map}
use Rattle.wc_maps.proofs.ListLemmas.{view_found}
use Rattle.wc_why_text.proofs.EnumerateLemmas.{put_all, put_more}
use Rattle.wc_why_text.specs.Runs.{module_ends}
use Rattle.wc_why.specs.Tree.{TreeModuleView, tree_module_view}
use Rattle.wc_why_text.proofs.runs.put_ends.Goals as goal

pub loop-index-init : goal.loop-index-init
loop-index-init c = sym (append-nil c.args.ends.now.items)

pub loop-index-preserved : goal.loop-index-preserved
loop-index-preserved c =
    let at = c.index-modules-index in
    put_more (λ (e : ℕ × TreeModuleView). module_ends e.0 e.1) (map tree_module_view c.args.modules.now) c.loop-index.index (tree_module_view at.result)
    c.args.ends.now.items c.loop-index.ends.items c.put_module_ends.new.ends.items (module_ends c.loop-index.index (tree_module_view at.result))
    (view_found tree_module_view c.args.modules.now c.loop-index.index at.result (search rules) ∙ ap (λ m. Some (tree_module_view m)) (sym at.is)) c.loop-index.invariant
    c.in_ok-put_module_ends.ensures (λ i. module_ends c.loop-index.index (tree_module_view at.result))

pub returns : goal.returns
returns c =
    put_all (λ (e : ℕ × TreeModuleView). module_ends e.0 e.1) (map tree_module_view c.args.modules.now) c.loop-index.index c.args.ends.now.items
    c.loop-index.ends.items (omega (arith, length-map c.args.modules.now tree_module_view, c.loop-index-test.false)) c.loop-index.invariant
