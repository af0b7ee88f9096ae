use Rattle.std.proofs.Common.{OnOk, subst, sym}
use Rattle.wc_resolve.specs.Roots.{item_roots}
use Rattle.wc_resolve.specs.Views.{item_view}
use Rattle.wc_ways.specs.Private.Needs.{Finds}
use Rattle.wc_ways.proofs.needs.note_item.Goals as goal

pub returns-in-Interface : goal.returns-in-Interface
returns-in-Interface c =
    let g = c.args.needing.now in
    subst (λ z. OnOk c.note_interface.result (Finds g c.args.found.now c.note_interface.new.found (item_roots g.resolve.now (item_view z)))) (sym c.in-Interface.is) c.note_interface.ensures

pub returns-in-Function : goal.returns-in-Function
returns-in-Function c =
    let g = c.args.needing.now in
    subst (λ z. OnOk c.note_function.result (Finds g c.args.found.now c.note_function.new.found (item_roots g.resolve.now (item_view z)))) (sym c.in-Function.is) c.note_function.ensures

pub returns-in-TypeItem : goal.returns-in-TypeItem
returns-in-TypeItem c =
    let g = c.args.needing.now in
    subst (λ z. OnOk c.note_type.result (Finds g c.args.found.now c.note_type.new.found (item_roots g.resolve.now (item_view z)))) (sym c.in-TypeItem.is) c.note_type.ensures
