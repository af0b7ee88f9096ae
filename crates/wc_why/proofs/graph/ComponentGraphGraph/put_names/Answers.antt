use Rattle.std.proofs.Common.{◌++◌, ◌∙◌, ap}
use Rattle.std.specs.Option.{option_map, option_to_list}
use Rattle.wc_why.specs.Private.Graph.{linked_number}
use Rattle.wc_why.proofs.GraphLemmas.{names_put}
use Rattle.wc_why.proofs.graph.ComponentGraphGraph.put_names.Goals as goal

pub returns-clause-names : goal.returns-clause-names
returns-clause-names c =
    let g = c.args.self.now in
    names_put g.parts.now g.numbers.now g.links.now c.args.item c.place-part.result c.place-part.ensures (g.owned c.args.item c.requires)
    c.index-self-part.result c.index-self-part.is c.row.result.now c.row.ensures c.args.out.now.items c.put_after.new.out.items c.put_linked.new.out.items
    c.in_ok-put_after.ensures
    (c.in_ok-put_linked.ensures ∙ ap (λ o. c.put_after.new.out.items ++ option_to_list (option_map linked_number o)) c.linked_at.ensures)
