use Rattle.std.proofs.Common.{ap, map, sym, ◌∙◌}
use Rattle.std.specs.Option.{option_map}
use Rattle.wc_why.specs.Part.{part_view}
use Rattle.wc_why.specs.Private.Modules.{root_by}
use Rattle.wc_why.proofs.ModuleLemmas.{has_number, link_is}
use Rattle.wc_why.proofs.modules.linked_root.Goals as goal

pub returns-in-Some : goal.returns-in-Some
returns-in-Some c =
    let g = c.args.shown.graph in
    c.root_by.ensures
    ∙ (ap (option_map (root_by c.args.position)) c.linked_at.ensures
    ∙ link_is (map part_view g.parts.now) g.numbers.now c.requires.shown.component.numbered (c.args.part, c.args.own) c.in-Some.number
    (sym c.number.ensures.number ∙ c.in-Some.is) g.links.now c.requires.shown.component.linked c.args.position)

pub returns-in-None : goal.returns-in-None
returns-in-None c =
    let g = c.args.shown.graph in
    absurd (has_number (map part_view g.parts.now) g.numbers.now c.requires.shown.component.numbered (c.args.part, c.args.own) c.requires.there
    (sym c.number.ensures.number ∙ c.in-None.is))
