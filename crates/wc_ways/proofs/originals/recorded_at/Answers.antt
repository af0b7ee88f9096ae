use Rattle.std.proofs.Common.{◌∙◌, ap, option_map, sym}
use Rattle.std.specs.Option.{option_and_then}
use Rattle.wc_validate.specs.Imports.Instances.{instance_view}
use Rattle.wc_ways.specs.Originals.{recorded_in}
use Rattle.wc_ways.proofs.RecordLemmas.{viewed_found}
use Rattle.wc_ways.proofs.originals.recorded_at.Goals as goal

pub returns-in-Some : goal.returns-in-Some
returns-in-Some c =
    c.recorded_in.ensures
    ∙ sym (ap (option_and_then (recorded_in c.args.name.now)) (viewed_found instance_view c.modules.result.now.entries c.args.imports.now c.args.from.now c.get.result c.modules.ensures c.get.ensures.value
    ∙ ap (option_map (λ x. instance_view x.now)) c.in-Some.is))

pub returns-in-None : goal.returns-in-None
returns-in-None c =
    sym (ap (option_and_then (recorded_in c.args.name.now)) (viewed_found instance_view c.modules.result.now.entries c.args.imports.now c.args.from.now c.get.result c.modules.ensures c.get.ensures.value
    ∙ ap (option_map (λ x. instance_view x.now)) c.in-None.is))
