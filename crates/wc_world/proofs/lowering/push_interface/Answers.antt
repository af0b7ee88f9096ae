use Rattle.std.proofs.Common.{◌<◌, ◌++◌, ◌∙◌, [], List, Some, ap, append_assoc, length, map, sym, ℕ}
use Rattle.std.specs.List.{flat_map}
use Rattle.std.specs.Option.{option_map_or}
use Rattle.wc_resolve.specs.Views.{FunctionView, function_entry, interface_view, type_entry}
use Rattle.wc_resolve.specs.WellFormed.{IsUsable}
use Rattle.wc_resolve.proofs.ViewedLemmas.{all_unviewed}
use Rattle.wc_resolve.proofs.WellFormedLemmas.{interface_functions_usable, interface_types_in}
use Rattle.wc_world.specs.Lowering.{Lowerer, function_lowerings, interface_lowerings, type_lowerings}
use Rattle.wc_world.specs.WorldViews.{lowering_entry}
use Rattle.wc_world.specs.Private.LoweringContext.{lowerer_in}
use Rattle.wc_world.proofs.UsedLemmas.{on_ok}
use Rattle.wc_world.proofs.lowering.push_interface.Goals as goal

pub push_types-requires : goal.push_types-requires
push_types-requires g c =
    all_unviewed type_entry (λ (e : List ℕ × ℕ). e.1 < length c.args.context.now.resolve.now.types) c.interface-interface.result.now.types.entries
    (interface_types_in c.args.context.now.resolve.now c.well_formedness.ensures c.args.id.0 (interface_view c.interface-interface.result.now) c.interface-interface.ensures)

pub push_functions-requires : goal.push_functions-requires
push_functions-requires g c =
    all_unviewed function_entry (λ (e : List ℕ × FunctionView). IsUsable c.args.context.now.resolve.now e.1) c.interface-interface.result.now.functions.entries
    (interface_functions_usable c.args.context.now.resolve.now c.well_formedness.ensures c.args.id.0 (interface_view c.interface-interface.result.now) c.interface-interface.ensures)

pub returns : goal.returns
returns g c = λ imports a.
    let l : Lowerer = lowerer_in g.O.ImportOptions.options_of c.args.context.now imports in
    on_ok c.push_functions.result (c.push_functions.ensures imports a) (λ h.
    h ∙ (ap (λ z. z ++ flat_map (λ e. function_lowerings l (Some c.args.id.0) e.1) (map function_entry c.interface-interface.result.now.functions.entries)) (c.in_ok-push_types.ensures imports a)
    ∙ (append_assoc (map lowering_entry c.args.lowerings.now.items) (flat_map (λ e. type_lowerings l e.1) (map type_entry c.interface-interface.result.now.types.entries))
    (flat_map (λ e. function_lowerings l (Some c.args.id.0) e.1) (map function_entry c.interface-interface.result.now.functions.entries))
    ∙ ap (λ z. map lowering_entry c.args.lowerings.now.items ++ z) (sym (ap (λ o. option_map_or (interface_lowerings l c.args.id.0) o []) c.interface-interface.ensures)))))
