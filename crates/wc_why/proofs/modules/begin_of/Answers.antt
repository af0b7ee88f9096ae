use Rattle.std.proofs.Common.{ap, map, sym, ◌∙◌}
use Rattle.wc_why.specs.Part.{begin_view, part_view}
use Rattle.wc_why.specs.Private.Modules.{root_in}
use Rattle.wc_why.proofs.ModuleLemmas.{has_number, no_root_found, root_found}
use Rattle.wc_why.proofs.ViewLemmas.{part_at}
use Rattle.wc_why.proofs.modules.begin_of.Goals as goal

pub returns-in-Some-firsts : goal.returns-in-Some-firsts
returns-in-Some-firsts c = λ view at.
    let g = c.args.shown.graph in
    root_found (map part_view g.parts.now) g.numbers.now c.requires.shown.component.numbered (c.args.part, c.args.own) c.in-Some.number
    (sym c.number.ensures.number ∙ c.in-Some.is) c.args.shown.firsts.now c.requires.shown.first c.in-Some-firsts.position c.in-Some-firsts.is view at _
    (c.root_at.ensures ∙ (ap (λ bs. root_in (map begin_view bs) c.in-Some-firsts.position) c.deref.ensures.value
    ∙ part_at (λ v. root_in v.begins c.in-Some-firsts.position) g.parts.now c.args.part _ view at))

pub returns-in-None-firsts : goal.returns-in-None-firsts
returns-in-None-firsts c = λ view at.
    let g = c.args.shown.graph in
    no_root_found (map part_view g.parts.now) g.numbers.now c.requires.shown.component.numbered (c.args.part, c.args.own) c.in-Some.number
    (sym c.number.ensures.number ∙ c.in-Some.is) c.args.shown.firsts.now c.requires.shown.first c.in-None-firsts.is view at

pub returns-in-None : goal.returns-in-None
returns-in-None c = λ view at.
    let g = c.args.shown.graph in
    absurd (has_number (map part_view g.parts.now) g.numbers.now c.requires.shown.component.numbered (c.args.part, c.args.own) c.requires.there
    (sym c.number.ensures.number ∙ c.in-None.is))
