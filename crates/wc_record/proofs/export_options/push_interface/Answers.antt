use Rattle.std.proofs.Common.{◌≡◌, ◌++◌, [], List, map, subst, sym, ℕ}
use Rattle.std.specs.Option.{option_map_or}
use Rattle.std.specs.Result.{OnOk}
use Rattle.wc_resolve.specs.Views.{FunctionView, InterfaceView, function_entry, interface_view}
use Rattle.wc_resolve.specs.WellFormed.{IsUsable}
use Rattle.wc_resolve.proofs.ViewedLemmas.{all_unviewed}
use Rattle.wc_resolve.proofs.WellFormedLemmas.{interface_functions_usable}
use Rattle.wc_record.specs.ExportOptions.{lifted_functions}
use Rattle.wc_record.specs.Private.ExportOptions.{lifted_view}
use Rattle.wc_record.proofs.export_options.push_interface.Goals as goal

pub push_functions-requires : goal.push_functions-requires
push_functions-requires c =
    all_unviewed function_entry (λ (e : List ℕ × FunctionView). IsUsable c.args.resolve.now e.1) c.interface.result.now.functions.entries
    (interface_functions_usable c.args.resolve.now c.well_formedness.ensures c.args.id.0 (interface_view c.interface.result.now) c.interface.ensures)

pub returns : goal.returns
returns c =
    subst (λ o. OnOk c.push_functions.result (map lifted_view c.push_functions.new.list.items ≡ map lifted_view c.args.list.now.items
    ++ option_map_or (λ (v : InterfaceView). lifted_functions c.args.resolve.now c.args.id.0 v.functions) o []))
    (sym c.interface.ensures) c.push_functions.ensures
