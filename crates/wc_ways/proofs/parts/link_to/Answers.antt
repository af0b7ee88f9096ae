use Rattle.std.proofs.Common.{◌∙◌, ap, sym}
use Rattle.wc_ways.specs.Parts.{link_from}
use Rattle.wc_ways.specs.Private.Parts.{linked_view}
use Rattle.wc_ways.proofs.parts.link_to.Goals as goal

pub returns-in-Some : goal.returns-in-Some
returns-in-Some c = ap (λ n. link_from n (linked_view c.args.linked)) (sym c.in-Some.is ∙ c.as_number.ensures)

pub returns-in-None : goal.returns-in-None
returns-in-None c = ap (λ n. link_from n (linked_view c.args.linked)) (sym c.in-None.is ∙ c.as_number.ensures)
