use Rattle.std.proofs.Common.{◌≡◌, IfOk, List, Option, ◌∙◌, ap, map, string_bytes, subst, sym}
use Rattle.wc_why.specs.Tree.{TreeCallerView, tree_caller_view}
use Rattle.wc_why_text.specs.TreeGraph.{caller_lines, some_caller_lines}
use Rattle.wc_why.specs.declared.tree.Callers.{Callers}
use Rattle.wc_why_text.proofs.TreeTokenLemmas.{shown_view}
use Rattle.wc_why_text.proofs.tree_graph.caller_lines.Goals as goal

pub returns-in-Some : goal.returns-in-Some
returns-in-Some c =
    let list = c.args.list.now in
    let r = c.some_caller_lines.result in
    subst (λ (o : Option Callers). IfOk r (λ s. string_bytes s ≡ caller_lines (map tree_caller_view list) o)) (sym c.in-Some.is)
    (subst (λ (l : List TreeCallerView). IfOk r (λ s. string_bytes s ≡ some_caller_lines l c.in-Some.callers.count))
    (ap (map tree_caller_view) c.shown_callers.ensures ∙ shown_view c.in-Some.callers tree_caller_view list) c.some_caller_lines.ensures)
