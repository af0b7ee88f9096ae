use Rattle.std.proofs.Common.{◌≡◌, ◌++◌, map, subst, sym}
use Rattle.std.specs.Result.{OnOk}
use Rattle.wc_resolve.specs.Views.{item_view}
use Rattle.wc_world.specs.Lowering.{Lowerer, item_lowerings}
use Rattle.wc_world.specs.WorldViews.{lowering_entry}
use Rattle.wc_world.specs.Private.LoweringContext.{lowerer_in}
use Rattle.wc_world.proofs.lowering.push_item.Goals as goal

pub returns-in-Function : goal.returns-in-Function
returns-in-Function g c = λ imports a.
    let l : Lowerer = lowerer_in g.O.ImportOptions.options_of c.args.context.now imports in
    subst (λ z. OnOk c.push_function.result (map lowering_entry c.push_function.new.lowerings.items ≡ map lowering_entry c.args.lowerings.now.items ++ item_lowerings l (item_view z))) (sym c.in-Function.is) (c.push_function.ensures imports a)

pub returns-in-TypeItem : goal.returns-in-TypeItem
returns-in-TypeItem g c = λ imports a.
    let l : Lowerer = lowerer_in g.O.ImportOptions.options_of c.args.context.now imports in
    subst (λ z. OnOk c.push_type.result (map lowering_entry c.push_type.new.lowerings.items ≡ map lowering_entry c.args.lowerings.now.items ++ item_lowerings l (item_view z))) (sym c.in-TypeItem.is) (c.push_type.ensures imports a)
