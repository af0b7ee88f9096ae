use Rattle.std.proofs.Common.{◌∙◌, ap}
use Rattle.wc_why_text.proofs.RustNameLemmas.{none_of_length, part_shorter}
use Rattle.wc_why_text.specs.RustNames.{part_after}
use Rattle.wc_why_text.proofs.rust_names.first_part.Goals as goal

pub returns-in-Some-clause-value : goal.returns-in-Some-clause-value
returns-in-Some-clause-value c = c.part_after.ensures ∙ ap part_after c.in-Some.ensures.found

pub returns-in-Some-clause-shorter : goal.returns-in-Some-clause-shorter
returns-in-Some-clause-shorter c = part_shorter c.args.text.now c.part_after.result (c.part_after.ensures ∙ ap part_after c.in-Some.ensures.found)

pub returns-in-None-clause-value : goal.returns-in-None-clause-value
returns-in-None-clause-value c = none_of_length c.args.text.now c.in-None.ensures.large
