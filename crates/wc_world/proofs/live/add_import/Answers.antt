use Rattle.std.proofs.Common.{[], IfSome, OnOk, ap, length, sym, subst}
use Rattle.std.specs.Option.{option_map_or}
use Rattle.wc_resolve.specs.Live.{AddsListings}
use Rattle.wc_resolve.specs.Ranges.{IsFunctionIn}
use Rattle.wc_resolve.specs.Roots.{function_roots}
use Rattle.wc_resolve.specs.Views.{world_view}
use Rattle.wc_texts.specs.Names.{under_name}
use Rattle.wc_names.specs.Views.{import_view}
use Rattle.wc_validate.specs.Requirements.{functions_of}
use Rattle.wc_world.specs.Live.{import_roots}
use Rattle.wc_world.proofs.LiveLemmas.{interface_function_there, interface_there, other_roots, payload_there, resource_there, task_outcome_there, world_function_there}
use Rattle.wc_world.proofs.AddedFunctionLemmas.{have_more}
use Rattle.wc_world.proofs.UsedLemmas.{on_ok}
use Rattle.wc_world.proofs.live.add_import.Goals as goal

pub add_builtin-requires-clause-resource : goal.add_builtin-requires-clause-resource
add_builtin-requires-clause-resource c = resource_there c.args.resolve.now (world_view c.args.world.now) (import_view c.args.import.now) c.requires.there

pub add_builtin-requires-clause-payload : goal.add_builtin-requires-clause-payload
add_builtin-requires-clause-payload c = payload_there c.args.resolve.now (world_view c.args.world.now) (import_view c.args.import.now) c.requires.there

pub add_item-requires : goal.add_item-requires
add_item-requires c = world_function_there c.args.resolve.now (world_view c.args.world.now) (import_view c.args.import.now) c.requires.there _ _ _ (ap import_view c.in-WorldFunc.is)

pub add_function_once-requires-clause-there : goal.add_function_once-requires-clause-there
add_function_once-requires-clause-there c = interface_there c.args.resolve.now (world_view c.args.world.now) (import_view c.args.import.now) c.requires.there _ _ _ _ (ap import_view c.in-InterfaceFunc.is)

pub add_function_once-requires-clause-function : goal.add_function_once-requires-clause-function
add_function_once-requires-clause-function c =
    subst (λ n. IfSome (under_name (functions_of c.args.resolve.now c.in-InterfaceFunc.id.0) n) (IsFunctionIn (length c.args.resolve.now.types))) (sym c.deref.ensures)
    (interface_function_there c.args.resolve.now (world_view c.args.world.now) (import_view c.args.import.now) c.requires.there _ _ _ _ (ap import_view c.in-InterfaceFunc.is))

pub add_result-requires : goal.add_result-requires
add_result-requires c = task_outcome_there c.args.resolve.now (world_view c.args.world.now) (import_view c.args.import.now) c.requires.there _ _ _ (ap import_view c.in-ExportedTaskReturn.is)

pub returns-in-WorldFunc-clause-adds : goal.returns-in-WorldFunc-clause-adds
returns-in-WorldFunc-clause-adds c =
    subst (λ z. OnOk c.add_item.result (AddsListings c.args.resolve.now c.args.live.now c.add_item.new.live (import_roots c.args.resolve.now (world_view c.args.world.now).imports z))) (sym (ap import_view c.in-WorldFunc.is)) c.add_item.ensures

pub returns-in-InterfaceFunc-clause-adds : goal.returns-in-InterfaceFunc-clause-adds
returns-in-InterfaceFunc-clause-adds c =
    subst (λ z. OnOk c.add_function_once.result (AddsListings c.args.resolve.now c.args.live.now c.add_function_once.new.live (import_roots c.args.resolve.now (world_view c.args.world.now).imports z))) (sym (ap import_view c.in-InterfaceFunc.is))
    (subst (λ n. OnOk c.add_function_once.result (AddsListings c.args.resolve.now c.args.live.now c.add_function_once.new.live (option_map_or function_roots (under_name (functions_of c.args.resolve.now c.in-InterfaceFunc.id.0) n) []))) c.deref.ensures
    c.add_function_once.ensures.adds)

pub returns-in-ExportedTaskReturn-clause-adds : goal.returns-in-ExportedTaskReturn-clause-adds
returns-in-ExportedTaskReturn-clause-adds c =
    subst (λ z. OnOk c.add_result.result (AddsListings c.args.resolve.now c.args.live.now c.add_result.new.live (import_roots c.args.resolve.now (world_view c.args.world.now).imports z))) (sym (ap import_view c.in-ExportedTaskReturn.is)) c.add_result.ensures

pub returns-in_default-clause-adds : goal.returns-in_default-clause-adds
returns-in_default-clause-adds c =
    subst (λ z. OnOk c.add_builtin.result (AddsListings c.args.resolve.now c.args.live.now c.add_builtin.new.live z))
    (other_roots c.args.resolve.now (world_view c.args.world.now).imports c.args.import.now c.in_default.not-WorldFunc c.in_default.not-InterfaceFunc c.in_default.not-ExportedTaskReturn) c.add_builtin.ensures

pub returns-in-WorldFunc-clause-have : goal.returns-in-WorldFunc-clause-have
returns-in-WorldFunc-clause-have c =
    on_ok c.add_item.result c.add_item.ensures (λ adds. have_more c.args.resolve.now c.args.live.now c.add_item.new.live _ c.requires.complete adds c.args.added.now.keys c.requires.have)

pub returns-in-ExportedTaskReturn-clause-have : goal.returns-in-ExportedTaskReturn-clause-have
returns-in-ExportedTaskReturn-clause-have c =
    on_ok c.add_result.result c.add_result.ensures (λ adds. have_more c.args.resolve.now c.args.live.now c.add_result.new.live _ c.requires.complete adds c.args.added.now.keys c.requires.have)

pub returns-in_default-clause-have : goal.returns-in_default-clause-have
returns-in_default-clause-have c =
    on_ok c.add_builtin.result c.add_builtin.ensures (λ adds. have_more c.args.resolve.now c.args.live.now c.add_builtin.new.live _ c.requires.complete adds c.args.added.now.keys c.requires.have)
