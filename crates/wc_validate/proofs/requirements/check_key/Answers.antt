use Rattle.std.proofs.Common.{map, string_bytes}
use Rattle.std.specs.Option.{option_map}
use Rattle.wc_resolve.specs.Views.{function_view, key_view, world_entry}
use Rattle.wc_validate.specs.declared.fault.ValidateFault.TheVariants.{MissingInterfaceExport, MissingWorldExport}
use Rattle.wc_validate.specs.Requirements.{interface_functions, key_requirement, world_function}
use Rattle.wc_validate.proofs.BuiltinLemmas.{not_so}
use Rattle.wc_validate.proofs.RequirementLemmas.{interface_here, item_is, met_none, met_some, no_item, requires_function, requires_interface, requires_none, requires_nothing, unmet_some}
use Rattle.wc_validate.proofs.requirements.check_key.Goals as goal

pub returns-in_default-clause-met : goal.returns-in_default-clause-met
returns-in_default-clause-met c = λ xs recorded same.
    met_none c.args.resolve.now xs recorded (key_requirement (map world_entry c.args.exports.now.entries) (key_view c.args.key.now))
    (requires_none (map world_entry c.args.exports.now.entries) (key_view c.args.key.now)
    (no_item c.args.key.now c.args.exports.now.entries c.in_default.ensures.value))

pub is_interface_recorded-requires : goal.is_interface_recorded-requires
is_interface_recorded-requires c =
    interface_here c.args.resolve.now (map world_entry c.args.exports.now.entries) (key_view c.args.key.now) c.in-Interface.id.0
    (option_map string_bytes c.in-Interface.external_id) c.requires
    (rw c.in-Interface.is at (item_is c.args.key.now c.args.exports.now.entries c.in-Some.item.now c.in-Some.ensures.value))

pub returns-then-branch-clause-met : goal.returns-then-branch-clause-met
returns-then-branch-clause-met c = λ xs recorded same.
    met_some c.args.resolve.now xs recorded (key_requirement (map world_entry c.args.exports.now.entries) (key_view c.args.key.now))
    (interface_functions c.in-Interface.id.0) (requires_interface (map world_entry c.args.exports.now.entries) (key_view c.args.key.now) c.in-Interface.id.0
    (option_map string_bytes c.in-Interface.external_id) (rw c.in-Interface.is at (item_is c.args.key.now c.args.exports.now.entries c.in-Some.item.now
    c.in-Some.ensures.value)))
    ((c.in_ok-is_interface_recorded-in-Interface.ensures recorded same).0 c.if-branch.true)

pub returns-else-branch-clause-fault : goal.returns-else-branch-clause-fault
returns-else-branch-clause-fault c = λ xs recorded same.
    unmet_some c.args.resolve.now xs recorded (key_requirement (map world_entry c.args.exports.now.entries) (key_view c.args.key.now))
    (interface_functions c.in-Interface.id.0) MissingInterfaceExport
    (requires_interface (map world_entry c.args.exports.now.entries) (key_view c.args.key.now) c.in-Interface.id.0
    (option_map string_bytes c.in-Interface.external_id) (rw c.in-Interface.is at (item_is c.args.key.now c.args.exports.now.entries c.in-Some.item.now
    c.in-Some.ensures.value)))
    (not_so _ _ (c.in_ok-is_interface_recorded-in-Interface.ensures recorded same) c.if-branch.false) tt

pub returns-then-branch-2-clause-met : goal.returns-then-branch-2-clause-met
returns-then-branch-2-clause-met c = λ xs recorded same.
    met_some c.args.resolve.now xs recorded (key_requirement (map world_entry c.args.exports.now.entries) (key_view c.args.key.now))
    (world_function (string_bytes c.in-Function.function.name))
    (requires_function (map world_entry c.args.exports.now.entries) (key_view c.args.key.now) (function_view c.in-Function.function)
    (rw c.in-Function.is at (item_is c.args.key.now c.args.exports.now.entries c.in-Some.item.now c.in-Some.ensures.value)))
    ((rw c.deref.ensures at (c.in_ok-is_recorded-in-Function.ensures recorded same)).0 c.if-branch-2.true)

pub returns-else-branch-2-clause-fault : goal.returns-else-branch-2-clause-fault
returns-else-branch-2-clause-fault c = λ xs recorded same.
    unmet_some c.args.resolve.now xs recorded (key_requirement (map world_entry c.args.exports.now.entries) (key_view c.args.key.now))
    (world_function (string_bytes c.in-Function.function.name)) MissingWorldExport
    (requires_function (map world_entry c.args.exports.now.entries) (key_view c.args.key.now) (function_view c.in-Function.function)
    (rw c.in-Function.is at (item_is c.args.key.now c.args.exports.now.entries c.in-Some.item.now c.in-Some.ensures.value)))
    (not_so _ _ (rw c.deref.ensures at (c.in_ok-is_recorded-in-Function.ensures recorded same)) c.if-branch-2.false) tt

pub returns-in-TypeItem-clause-met : goal.returns-in-TypeItem-clause-met
returns-in-TypeItem-clause-met c = λ xs recorded same.
    met_none c.args.resolve.now xs recorded (key_requirement (map world_entry c.args.exports.now.entries) (key_view c.args.key.now))
    (requires_nothing (map world_entry c.args.exports.now.entries) (key_view c.args.key.now) c.in-TypeItem.id.0
    (rw c.in-TypeItem.is at (item_is c.args.key.now c.args.exports.now.entries c.in-Some.item.now c.in-Some.ensures.value)))
