use Rattle.std.proofs.Common.{◌≡◌, ℕ, ◌-◌, IfOk, List, [], ◌++◌, ◌∙◌, ap, codes, length, map, rules, string_bytes, subst, sym, take}
use Rattle.std.proofs.lemmas.List.{length-map, take-map}
use Rattle.std.specs.List.{flat_map}
use Rattle.std.specs.Prelude.{decimal}
use Rattle.wc_texts.specs.Escape.{escaped}
use Rattle.wc_why.specs.Tree.{tree_way_view}
use Rattle.wc_why_text.specs.TreeGraph.{line, more_line, way_line}
use Rattle.wc_why_text.proofs.tree_graph.group_box.Goals as goal

pub returns : goal.returns
returns c =
    let ways = c.args.ways.now in
    let interface : string_bytes c.in_ok-interface.interface ≡ line [] (escaped c.args.interface.now) =
    c.in_ok-interface.ensures ∙ ap (line []) (c.deref.ensures ∙ c.in_ok-escaped.ensures) in
    let names : string_bytes c.in_ok-names.names ≡ flat_map way_line (take 6 (map tree_way_view ways)) =
    c.in_ok-names.ensures ∙ ap (λ l. flat_map way_line (map tree_way_view l)) c.first_ways.ensures
    ∙ ap (flat_map way_line) (sym (take-map tree_way_view 6 ways)) in
    let count : c.saturating_sub.result ≡ length ways - 6 = search rules in
    let more : string_bytes c.in_ok-more.more ≡ more_line (codes "  and ") (length (map tree_way_view ways) - 6) =
    c.in_ok-more.ensures ∙ ap (more_line (codes "  and ")) (count ∙ ap (λ n. n - 6) (sym (length-map ways tree_way_view))) in
    subst (λ (text : List ℕ). IfOk c.format.result (λ s. string_bytes s ≡ text))
    (λ i. codes "  i" ++ (decimal c.args.number ++ (codes " [label=\"" ++ (interface i ++ (names i ++ (more i ++ codes "\", style=bold];\n"))))))
    c.format.ensures.ok
