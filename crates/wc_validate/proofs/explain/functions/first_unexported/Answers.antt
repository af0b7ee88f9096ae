use Rattle.std.proofs.Common.{◌∙◌, ap, map, string_bytes}
use Rattle.wc_read.specs.Types.{func_type_value}
use Rattle.wc_validate.specs.Imports.Map.{required_entry}
use Rattle.wc_validate.proofs.MissingLemmas.{functions_end, functions_lack, functions_more, functions_start}
use Rattle.wc_validate.proofs.explain.functions.first_unexported.Goals as goal

pub loop-name-init : goal.loop-name-init
loop-name-init c = λ r xs recorded same.
    functions_start r xs recorded (map required_entry c.args.functions.now.entries) _
    (ap (map required_entry) (c.into_iter-name-iterator.ensures.into_iter_gives ∙ c.iter-name-items.ensures.rest))

pub returns-in-Err-clause-lacking : goal.returns-in-Err-clause-lacking
returns-in-Err-clause-lacking c = λ r xs recorded same.
    functions_lack r xs recorded (map required_entry c.args.functions.now.entries) _ (map required_entry c.next.new.self)
    (string_bytes c.in-Some.name.now) c.as_str-text.result.now (func_type_value c.in-Some.ty.now) c.in-Err.fault
    (c.loop-name.invariant r xs recorded same) (ap (map required_entry) c.in-Some.ensures.steps) c.as_str-text.ensures.value
    (c.in-Err.ensures.fault r xs recorded same)

pub loop-name-preserved : goal.loop-name-preserved
loop-name-preserved c = λ r xs recorded same.
    functions_more r xs recorded (map required_entry c.args.functions.now.entries) _ (map required_entry c.next.new.self)
    (string_bytes c.in-Some.name.now) c.as_str-text.result.now (func_type_value c.in-Some.ty.now)
    (c.loop-name.invariant r xs recorded same) (ap (map required_entry) c.in-Some.ensures.steps) c.as_str-text.ensures.value
    (c.in_default.ensures.met r xs recorded same)

pub returns-clause-met : goal.returns-clause-met
returns-clause-met c = λ r xs recorded same.
    functions_end r xs recorded (map required_entry c.args.functions.now.entries) _ (c.loop-name.invariant r xs recorded same)
    (ap (map required_entry) c.in-None.ensures.steps.0)
