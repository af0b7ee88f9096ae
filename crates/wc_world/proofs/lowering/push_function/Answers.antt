use Rattle.std.proofs.Common.{◌++◌, ◌∙◌, ap, append_assoc, map}
use Rattle.wc_resolve.specs.declared.functions.AbiVariant.TheVariants.{GuestImport, GuestImportAsync}
use Rattle.wc_resolve.specs.Views.{function_view}
use Rattle.wc_world.specs.Lowering.{Lowerer, called_lowering}
use Rattle.wc_world.specs.WorldViews.{lowering_entry}
use Rattle.wc_world.specs.Private.LoweringContext.{lowerer_in}
use Rattle.wc_world.specs.Private.ImportedItems.{interface_index}
use Rattle.wc_world.proofs.UsedLemmas.{on_ok}
use Rattle.wc_world.proofs.lowering.push_function.Goals as goal

pub returns : goal.returns
returns g c = λ imports a.
    let l : Lowerer = lowerer_in g.O.ImportOptions.options_of c.args.context.now imports in
    on_ok c.push_call-2.result (c.push_call-2.ensures imports a) (λ h.
    h ∙ (ap (λ z. z ++ called_lowering l (interface_index c.args.interface) (function_view c.args.function.now) GuestImportAsync) (c.in_ok-push_call.ensures imports a)
    ∙ append_assoc (map lowering_entry c.args.lowerings.now.items) (called_lowering l (interface_index c.args.interface) (function_view c.args.function.now) GuestImport)
    (called_lowering l (interface_index c.args.interface) (function_view c.args.function.now) GuestImportAsync)))
