use Rattle.std.proofs.Common.{false, ap, map, subst}
use Rattle.std.proofs.lemmas.Result.{IfOk-weaker}
use Rattle.wc_why.specs.Part.{part_view}
use Rattle.wc_why.specs.Tree.{tree_caller_view, tree_view}
use Rattle.wc_import_paths.specs.Shown.{IsTreeTo, end_view}
use Rattle.wc_module_ways.proofs.TreeLemmas.{tree_is}
use Rattle.wc_module_ways.proofs.tree.tree_of.Goals as goal

pub returns : goal.returns
returns c =
    let m = c.args.modules.now in
    let parts = c.in_ok-parts.parts.items in
    let shown = c.in_ok-shown.shown.items in
    let is_asked = c.is_any_asked-is_asked.result in
    IfOk-weaker c.tree_to_ends.result _ _
    (λ t is. tree_is m c.args.asked.now (map tree_caller_view c.args.functions.now) (tree_view t) (map part_view parts) (map end_view shown) is_asked
    c.in_ok-parts.ensures c.requires.main c.in_ok-shown.ensures c.is_any_asked-is_asked.ensures
    (subst (λ z. IsTreeTo z (map end_view shown) is_asked false (tree_view t)) (ap (map part_view) c.deref-2.ensures.value)
    (subst (λ z. IsTreeTo (map part_view c.deref-2.result.now) z is_asked false (tree_view t)) (ap (map end_view) c.deref-3.ensures.value) is)))
    c.tree_to_ends.ensures
