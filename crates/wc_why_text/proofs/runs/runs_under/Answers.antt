use Rattle.std.proofs.Common.{ℕ, ap, map, rules, arith, ◌∙◌, Some, sym}
use Rattle.std.proofs.lemmas.List.{length-map}
use Rattle.std.specs.declared.alloc.Global.{Global}
use Rattle.std.specs.declared.vec.Vec.{Vec}
use Rattle.wc_maps.proofs.ListLemmas.{view_found}
use Rattle.wc_why_text.proofs.EnumerateLemmas.{list_all, list_more}
use Rattle.wc_why_text.specs.Runs.{is_among, module_firsts}
use Rattle.wc_why.specs.Tree.{TreeModuleView, tree_module_view}
use Rattle.wc_why_text.proofs.runs.runs_under.Goals as goal

pub loop-index-init : goal.loop-index-init
loop-index-init c = ap (map (λ (v : Vec ℕ Global). v.items)) c.new-firsts.ensures.items

pub loop-index-preserved : goal.loop-index-preserved
loop-index-preserved c =
    let at = c.index-modules-index in
    list_more (λ (e : ℕ × TreeModuleView). module_firsts (is_among c.args.ends.now.keys) e.0 e.1) (λ (v : Vec ℕ Global). v.items)
    (map tree_module_view c.args.modules.now) c.loop-index.index (tree_module_view at.result) c.loop-index.firsts.items c.push.new.self.items
    c.in_ok-of_module.of_module (view_found tree_module_view c.args.modules.now c.loop-index.index at.result (search rules) ∙ ap (λ m. Some (tree_module_view m)) (sym at.is))
    c.loop-index.invariant c.in_ok-push.ensures.items c.in_ok-of_module.ensures

pub returns : goal.returns
returns c =
    list_all (λ (e : ℕ × TreeModuleView). module_firsts (is_among c.args.ends.now.keys) e.0 e.1) (λ (v : Vec ℕ Global). v.items)
    (map tree_module_view c.args.modules.now) c.loop-index.index c.loop-index.firsts.items
    (omega (arith, length-map c.args.modules.now tree_module_view, c.loop-index-test.false)) c.loop-index.invariant
