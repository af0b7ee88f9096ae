use Rattle.std.proofs.Common.{ap}
use Rattle.wc_selection.specs.Keys.{named_key}
use Rattle.wcplan_inputs.specs.Exporters.{functions_under}
use Rattle.wc_validate.proofs.RequirementLemmas.{item_is, no_item}
use Rattle.wcplan_inputs.proofs.ExporterLemmas.{functions_are, functions_made}
use Rattle.wcplan_inputs.proofs.exporters.KeyFunctions.new.Goals as goal

pub returns-in-Some-Interface : goal.returns-in-Some-Interface
returns-in-Some-Interface c =
    let found = rw c.in-Some-Interface.field-0-is at (item_is c.args.key.now.0 c.args.exports.now.entries c.in-Some-Interface.field-0.now
    c.in-Some-Interface.ensures.value) in
    functions_made _ _ c.interface_functions.result c.interface_functions.ensures.interface c.interface_functions.ensures.canonical
    c.interface_functions.ensures.functions (ap (functions_under c.args.resolve.now (named_key c.args.key.now)) found)

pub returns-in-Some-Function : goal.returns-in-Some-Function
returns-in-Some-Function c =
    let found = rw c.in-Some-Function.field-0-is at (item_is c.args.key.now.0 c.args.exports.now.entries c.in-Some-Function.field-0.now
    c.in-Some-Function.ensures.value) in
    functions_made _ _ c.world_function.result c.world_function.ensures.interface c.world_function.ensures.canonical
    (rw c.as_str.ensures.value at c.world_function.ensures.functions) (ap (functions_under c.args.resolve.now (named_key c.args.key.now)) found)

pub returns-in-Some-TypeItem : goal.returns-in-Some-TypeItem
returns-in-Some-TypeItem c =
    let found = rw c.in-Some-TypeItem.field-0-is at (item_is c.args.key.now.0 c.args.exports.now.entries c.in-Some-TypeItem.field-0.now
    c.in-Some-TypeItem.ensures.value) in
    functions_are c.no_functions.result _ _ c.no_functions.ensures.interface c.no_functions.ensures.canonical
    c.no_functions.ensures.functions (ap (functions_under c.args.resolve.now (named_key c.args.key.now)) found)

pub returns-in-None : goal.returns-in-None
returns-in-None c =
    functions_are c.no_functions-in-None.result _ _ c.no_functions-in-None.ensures.interface c.no_functions-in-None.ensures.canonical
    c.no_functions-in-None.ensures.functions (ap (functions_under c.args.resolve.now (named_key c.args.key.now))
    (no_item c.args.key.now.0 c.args.exports.now.entries c.in-None.ensures.value))
