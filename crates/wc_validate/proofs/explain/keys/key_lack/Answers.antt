use Rattle.std.proofs.Common.{◌∙◌, map, string_bytes}
use Rattle.std.specs.Option.{option_map}
use Rattle.wc_resolve.specs.Views.{function_view, key_view, world_entry}
use Rattle.wc_validate.specs.Private.Requirements.{IsKeyNamed}
use Rattle.wc_validate.specs.Requirements.{interface_functions, key_requirement}
use Rattle.wc_validate.proofs.LawLemmas.{none_some}
use Rattle.wc_validate.proofs.MissingLemmas.{holds_of_key, named_lack, named_world}
use Rattle.wc_validate.proofs.RequirementLemmas.{interface_here, item_is, no_item, requires_function, requires_interface, requires_none, requires_nothing}
use Rattle.wc_validate.proofs.explain.keys.key_lack.Goals as goal

pub interface_lack-requires-clause-there : goal.interface_lack-requires-clause-there
interface_lack-requires-clause-there c =
    interface_here c.args.resolve.now (map world_entry c.args.exports.now.entries) (key_view c.args.key.now) c.in-Interface.id.0
    (option_map string_bytes c.in-Interface.external_id) c.requires.items
    (rw c.in-Interface.is at (item_is c.args.key.now c.args.exports.now.entries c.in-Some.item.now c.in-Some.ensures.value))

pub returns-in-Interface : goal.returns-in-Interface
returns-in-Interface c =
    named_lack c.args.resolve.now c.args.functions.now.keys c.args.exports.now.entries c.args.key.now (interface_functions c.in-Interface.id.0)
    c.interface_lack.result
    (requires_interface (map world_entry c.args.exports.now.entries) (key_view c.args.key.now) c.in-Interface.id.0
    (option_map string_bytes c.in-Interface.external_id)
    (rw c.in-Interface.is at (item_is c.args.key.now c.args.exports.now.entries c.in-Some.item.now c.in-Some.ensures.value)))
    c.interface_lack.ensures

pub returns-in_ok-name-in-Function : goal.returns-in_ok-name-in-Function
returns-in_ok-name-in-Function c = λ need is recorded same.
    named_world c.args.resolve.now recorded (map world_entry c.args.exports.now.entries) (key_view c.args.key.now)
    (string_bytes c.in_ok-name-in-Function.name) (string_bytes c.in-Function.function.name) need
    (requires_function (map world_entry c.args.exports.now.entries) (key_view c.args.key.now) (function_view c.in-Function.function)
    (rw c.in-Function.is at (item_is c.args.key.now c.args.exports.now.entries c.in-Some.item.now c.in-Some.ensures.value)))
    (c.in_ok-name-in-Function.ensures.ok ∙ c.deref.ensures) is

pub interface_lack-requires-clause-named : goal.interface_lack-requires-clause-named
interface_lack-requires-clause-named c =
    holds_of_key (IsKeyNamed c.args.resolve.now) (key_view c.args.key.now) (map world_entry c.args.exports.now.entries) _ c.requires.named
    (item_is c.args.key.now c.args.exports.now.entries c.in-Some.item.now c.in-Some.ensures.value)

pub returns-in_default : goal.returns-in_default
returns-in_default c = λ need is.
    absurd (none_some (key_requirement (map world_entry c.args.exports.now.entries) (key_view c.args.key.now)) need
    (requires_none (map world_entry c.args.exports.now.entries) (key_view c.args.key.now)
    (no_item c.args.key.now c.args.exports.now.entries c.in_default.ensures.value)) is)

pub returns-in-TypeItem : goal.returns-in-TypeItem
returns-in-TypeItem c = λ need is.
    absurd (none_some (key_requirement (map world_entry c.args.exports.now.entries) (key_view c.args.key.now)) need
    (requires_nothing (map world_entry c.args.exports.now.entries) (key_view c.args.key.now) c.in-TypeItem.id.0
    (rw c.in-TypeItem.is at (item_is c.args.key.now c.args.exports.now.entries c.in-Some.item.now c.in-Some.ensures.value))) is)
