use Rattle.std.proofs.Common.{◌∙◌, ap, map}
use Rattle.wc_resolve.specs.Views.{function_view}
use Rattle.wc_world.specs.Lowering.{Lowerer, lowered_function, is_imported}
use Rattle.wc_names.specs.Imports.{import_abi}
use Rattle.wc_world.specs.Private.ImportedItems.{interface_index}
use Rattle.wc_world.specs.WorldViews.{lowering_entry, lowering_view}
use Rattle.wc_world.specs.Private.LoweringContext.{lowerer_in}
use Rattle.wc_world.proofs.LoweringLemmas.{call_pushed, pushed}
use Rattle.wc_world.proofs.lowering.push_call.Goals as goal

pub returns : goal.returns
returns g c = λ imports a.
    let l : Lowerer = lowerer_in g.O.ImportOptions.options_of c.args.context.now imports in
    call_pushed l (interface_index c.args.callee.interface) (function_view c.args.callee.function.now) (import_abi c.args.is_async) (map lowering_entry c.args.lowerings.now.items) (map lowering_entry c.push.new.self.items)
    (lowering_entry ((c.in_ok-name.name, c.import_abi-abi.result), c.in_ok-lowering.lowering)) c.has_function.result
    (c.has_function.ensures imports a ∙ ap (λ n. is_imported (interface_index c.args.callee.interface) n (import_abi c.args.is_async) imports) c.deref.ensures)
    c.if-not-has_function.false
    (ap (λ n. ((n, c.import_abi-abi.result), lowering_view c.in_ok-lowering.lowering)) (c.in_ok-name.ensures.ok ∙ c.deref-2.ensures)
    ∙ (ap (λ v. (((function_view c.args.callee.function.now).name, c.import_abi-abi.result), v)) (c.in_ok-lowering.ensures)
    ∙ ap (λ b. (((function_view c.args.callee.function.now).name, b), lowered_function l (function_view c.args.callee.function.now) b)) c.import_abi-abi.ensures))
    (pushed c.args.lowerings.now.items c.push.new.self.items ((c.in_ok-name.name, c.import_abi-abi.result), c.in_ok-lowering.lowering) c.in_ok-push.ensures.items)
