use Rattle.std.proofs.Common.{◌<◌, map, subst, sym, ◌∙◌}
use Rattle.std.specs.Prelude.{All}
use Rattle.wc_graph.specs.Dominators.{AreGraphDominators}
use Rattle.wc_why.specs.Component.{asked_items}
use Rattle.wc_why.specs.Part.{part_view}
use Rattle.wc_why.specs.Private.Graph.{names_by}
use Rattle.wc_why.specs.Private.Numbers.{total}
use Rattle.wc_why.proofs.GraphLemmas.{parts_below}
use Rattle.wc_why.proofs.MarkLemmas.{asked_below, marks_made}
use Rattle.wc_why.proofs.marks.marks_of.Goals as goal

pub dominators_in-requires-clause-targets : goal.dominators_in-requires-clause-targets
dominators_in-requires-clause-targets c =
    let g = c.args.graph.now in
    subst (All (λ x. x < total g.numbers.now)) (sym (c.deref.ensures.value ∙ c.in_ok-asked.ensures))
    (asked_below (map part_view g.parts.now) g.numbers.now g.links.now c.requires.component.numbered (parts_below g.parts.now) c.requires.component.linked
    c.args.roots.now c.requires.there (asked_items c.args.targets.now))

pub returns-in-Ok : goal.returns-in-Ok
returns-in-Ok c =
    let g = c.args.graph.now in
    marks_made (names_by (map part_view g.parts.now) g.numbers.now g.links.now) g.numbers.now c.args.roots.now c.args.targets.now c.args.marked c.in-Ok.marks
    c.if-not-marked.false
    (subst (λ ts. AreGraphDominators (names_by (map part_view g.parts.now) g.numbers.now g.links.now) (total g.numbers.now) c.args.roots.now ts c.in-Ok.marks.items)
    (c.deref.ensures.value ∙ c.in_ok-asked.ensures) c.in-Ok.ensures.dominators)
