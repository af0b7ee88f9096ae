use Rattle.std.proofs.Common.{◌≡◌, Bool, IfOk, List, ◌∙◌, ap, map, subst}
use Rattle.wc_why_text.specs.Runs.{Place, is_among, runs_under, runs_view, tree_ends}
use Rattle.wc_why.specs.Tree.{tree_module_view, tree_view}
use Rattle.wc_why.specs.declared.tree.TreeModule.{TreeModule}
use Rattle.wc_why_text.proofs.runs.find_runs.Goals as goal

pub returns : goal.returns
returns c =
    let list : c.deref.result.now ≡ tree_ends (tree_view c.args.tree.now) = c.deref.ensures.value ∙ c.in_ok-list.ensures in
    let ends : is_among c.in_ok-ends.ends.keys ≡ is_among (tree_ends (tree_view c.args.tree.now)) =
    λ i p. (c.in_ok-ends.ensures p ∙ ap (λ l. is_among l p) list) i in
    subst (λ (modules : List TreeModule). IfOk c.runs_under.result
    (λ r. runs_view r ≡ runs_under (is_among (tree_ends (tree_view c.args.tree.now))) (map tree_module_view modules))) c.deref-2.ensures.value
    (subst (λ (is_end : Place → Bool). IfOk c.runs_under.result (λ r. runs_view r ≡ runs_under is_end (map tree_module_view c.deref-2.result.now))) ends
    c.runs_under.ensures)
