use Rattle.std.proofs.Common.{OnOk, subst, sym}
use Rattle.wc_resolve.specs.Roots.{item_roots}
use Rattle.wc_resolve.specs.Views.{item_view}
use Rattle.wc_world.specs.Live.{export_roots}
use Rattle.wc_world.specs.Used.{used_view}
use Rattle.wc_ways.specs.Private.Needs.{Finds}
use Rattle.wc_ways.proofs.type_roots.note_export.Goals as goal

pub returns-in-Interface : goal.returns-in-Interface
returns-in-Interface c =
    let g = c.args.needing.now in
    subst (λ z. OnOk c.note_exported.result (Finds g c.args.found.now c.note_exported.new.found (export_roots g.resolve.now (used_view c.args.used.now) (item_view z))))
    (sym c.in-Interface.is) c.note_exported.ensures

pub returns-in-Function : goal.returns-in-Function
returns-in-Function c =
    let g = c.args.needing.now in
    let sets = used_view c.args.used.now in
    subst (λ z. OnOk c.note_item.result (Finds g c.args.found.now c.note_item.new.found (export_roots g.resolve.now sets (item_view z)))) (sym c.in-Function.is)
    (subst (λ z. OnOk c.note_item.result (Finds g c.args.found.now c.note_item.new.found (item_roots g.resolve.now (item_view z)))) c.in-Function.is c.note_item.ensures)

pub returns-in-TypeItem : goal.returns-in-TypeItem
returns-in-TypeItem c =
    let g = c.args.needing.now in
    let sets = used_view c.args.used.now in
    subst (λ z. OnOk c.note_item-in-TypeItem.result (Finds g c.args.found.now c.note_item-in-TypeItem.new.found (export_roots g.resolve.now sets (item_view z)))) (sym c.in-TypeItem.is)
    (subst (λ z. OnOk c.note_item-in-TypeItem.result (Finds g c.args.found.now c.note_item-in-TypeItem.new.found (item_roots g.resolve.now (item_view z)))) c.in-TypeItem.is c.note_item-in-TypeItem.ensures)
