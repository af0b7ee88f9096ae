use Rattle.wc_names.proofs.AsyncValueLemmas.{name_of_parts, no_closing, not_bracketed}
use Rattle.wc_names.proofs.async_values.name_parts.Goals as goal

pub returns-in_default-split_at_first : goal.returns-in_default-split_at_first
returns-in_default-split_at_first c =
    λ v op which f l. no_closing c.args.name.now c.in-Some.rest.now v op which f c.in-Some.ensures.found c.in_default-split_at_first.ensures

pub returns-in-Some-bracketed : goal.returns-in-Some-bracketed
returns-in-Some-bracketed c =
    name_of_parts c.args.name.now c.in-Some.rest.now c.in-Some-split_at_first.inside.now c.in-Some-split_at_first.function.now c.in-Some-bracketed.value
    c.in-Some-bracketed.operation c.in-Some-bracketed.which.now
    c.in-Some.ensures.found c.in-Some-split_at_first.ensures c.in-Some-bracketed.ensures

pub returns-in-None : goal.returns-in-None
returns-in-None c = λ v op which f.
    not_bracketed c.args.name.now c.in-Some.rest.now c.in-Some-split_at_first.inside.now c.in-Some-split_at_first.function.now v op which f c.in-Some.ensures.found
    c.in-Some-split_at_first.ensures (c.in-None.ensures v op which)
