use Rattle.std.proofs.Common.{refl, sym, ◌∙◌}
use Rattle.wc_why.specs.Part.{link_view}
use Rattle.wc_why.specs.declared.links.Linked.{Linked}
use Rattle.wc_why.proofs.LinkLemmas.{links_kept, links_noted, no_item, no_linked}
use Rattle.wc_why.proofs.links.put_link.Goals as goal

pub returns-in-Some-number-clause-linked : goal.returns-in-Some-number-clause-linked
returns-in-Some-number-clause-linked c = λ parts ls numbered before.
    links_noted parts ls c.args.numbers.now numbered c.args.linked.now.items before (link_view c.args.link) c.in-Some.item c.in-Some-number.number
    (sym c.number.ensures.number ∙ c.in-Some.is) (sym c.number-in-Some.ensures.number ∙ c.in-Some-number.is)
    (let o : Linked = record { number = c.in-Some-number.number; export = c.args.link.export } in o) refl refl c.note_link.new.linked.items c.note_link.ensures.noted

pub returns-in-None-number-clause-linked : goal.returns-in-None-number-clause-linked
returns-in-None-number-clause-linked c = λ parts ls numbered before.
    links_kept parts ls c.args.numbers.now numbered c.args.linked.now.items before (link_view c.args.link)
    (no_linked parts ls c.args.numbers.now numbered c.args.linked.now.items before (link_view c.args.link) (sym c.number-in-Some.ensures.number ∙ c.in-None-number.is))

pub returns-in-None-clause-linked : goal.returns-in-None-clause-linked
returns-in-None-clause-linked c = λ parts ls numbered before.
    links_kept parts ls c.args.numbers.now numbered c.args.linked.now.items before (link_view c.args.link)
    (no_item parts ls c.args.numbers.now numbered c.args.linked.now.items before (link_view c.args.link) (sym c.number.ensures.number ∙ c.in-None.is))
