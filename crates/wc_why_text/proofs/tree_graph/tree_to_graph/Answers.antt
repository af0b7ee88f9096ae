use Rattle.std.proofs.Common.{◌≡◌, ℕ, IfOk, List, ◌∙◌, ap, map, string_bytes, subst, true}
use Rattle.wc_why.specs.Tree.{tree_module_view, tree_view, tree_way_view}
use Rattle.wc_why_text.specs.Groups.{group_names, group_ways, interfaces_of, ways_of}
use Rattle.wc_why_text.specs.TreeGraph.{graph_by, label_text}
use Rattle.wc_why_text.specs.Ways.{chosen_ways}
use Rattle.wc_why_text.proofs.tree_graph.tree_to_graph.Goals as goal

pub returns : goal.returns
returns c =
    let t = tree_view c.args.tree.now in
    let label : c.in_ok-label.label.now ≡ label_text t.ways = c.in_ok-label.ensures ∙ ap (λ l. label_text (map tree_way_view l)) c.deref.ensures.value in
    let imports : map tree_way_view c.deref-3.result.now ≡ chosen_ways true t.ways =
    ap (map tree_way_view) c.deref-3.ensures.value ∙ c.in_ok-imports.ensures ∙ ap (λ l. chosen_ways true (map tree_way_view l)) c.deref-2.ensures.value in
    let modules : map tree_module_view c.deref-4.result.now ≡ t.modules = ap (map tree_module_view) c.deref-4.ensures.value in
    let groups = c.in_ok-groups.ensures in
    let names : group_names c.in_ok-groups.groups.entries ≡ interfaces_of (chosen_ways true t.ways) = groups.names ∙ ap interfaces_of imports in
    let each : group_ways c.in_ok-groups.groups.entries ≡ ways_of (chosen_ways true t.ways) =
    λ i name. (groups.each name ∙ ap (λ w. ways_of w name) imports) i in
    subst (λ (text : List ℕ). IfOk c.graph_by.result (λ s. string_bytes s ≡ text))
    (λ i. graph_by (label i) (c.in_ok-runs.ensures i) (modules i) (names i) (each i)) c.graph_by.ensures
