use Rattle.std.proofs.Common.{OnOk, subst, sym}
use Rattle.wc_resolve.specs.Views.{item_view, key_view}
use Rattle.wc_ways.specs.Private.Needs.{AddsNeeds, noted_in}
use Rattle.wc_ways.specs.TypeRoots.{own_needs}
use Rattle.wc_ways.proofs.NeedLemmas.{needs_none}
use Rattle.wc_ways.proofs.type_roots.note_own_type.Goals as goal

pub returns-in-TypeItem : goal.returns-in-TypeItem
returns-in-TypeItem c =
    let r = c.args.resolve.now in
    subst (λ z. OnOk c.note_type.result (AddsNeeds r (noted_in c.args.found.now) (noted_in c.note_type.new.found) (own_needs r (key_view c.args.imported.0.now, item_view z))))
    (sym c.in-TypeItem.is) c.note_type.ensures

pub returns-in-Interface : goal.returns-in-Interface
returns-in-Interface c =
    let r = c.args.resolve.now in
    subst (λ z. AddsNeeds r (noted_in c.args.found.now) (noted_in c.args.found.now) (own_needs r (key_view c.args.imported.0.now, item_view z)))
    (sym c.in-Interface.is) (needs_none r (noted_in c.args.found.now))

pub returns-in-Function : goal.returns-in-Function
returns-in-Function c =
    let r = c.args.resolve.now in
    subst (λ z. AddsNeeds r (noted_in c.args.found.now) (noted_in c.args.found.now) (own_needs r (key_view c.args.imported.0.now, item_view z)))
    (sym c.in-Function.is) (needs_none r (noted_in c.args.found.now))
