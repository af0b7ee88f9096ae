use Rattle.std.proofs.Common.{◌∙◌, ap, sym}
use Rattle.std.specs.Option.{option_map_or}
use Rattle.wc_why.specs.declared.component.Target.{Target}
use Rattle.wc_ways.specs.Wanted.{no_target}
use Rattle.wc_ways.proofs.typed_found.target_of.Goals as goal

pub returns-in-Some : goal.returns-in-Some
returns-in-Some c = ap (λ o. option_map_or (λ (t : Target). t) o no_target) (sym c.in-Some.is ∙ c.found_target.ensures)

pub returns-in-None : goal.returns-in-None
returns-in-None c = c.type_target.ensures ∙ ap (λ o. option_map_or (λ (t : Target). t) o no_target) (sym c.in-None.is ∙ c.found_target.ensures)
