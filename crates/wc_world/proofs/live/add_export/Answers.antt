use Rattle.std.proofs.Common.{◌∙◌, Option, Some, OnOk, ap, refl, sym, subst}
use Rattle.std.specs.List.{Contains}
use Rattle.wc_resolve.specs.declared.ids.InterfaceId.{InterfaceId}
use Rattle.wc_resolve.specs.Live.{AddsListings}
use Rattle.wc_resolve.specs.Roots.{item_roots}
use Rattle.wc_resolve.specs.Views.{item_view}
use Rattle.wc_world.specs.Live.{elsewhere_from, export_roots, is_from_elsewhere, live_from}
use Rattle.wc_world.specs.Used.{used_view}
use Rattle.wc_world.specs.Private.Marks.{known_to}
use Rattle.wc_world.specs.Private.Settled.{AreSettled}
use Rattle.wc_world.proofs.KnownTypeLemmas.{beside_found, is_new, new_for_all}
use Rattle.wc_world.proofs.LiveLemmas.{interface_live_in}
use Rattle.wc_world.proofs.MarkLemmas.{elsewhere_live, known_complete}
use Rattle.wc_world.proofs.SettledLemmas.{settled_still}
use Rattle.wc_world.proofs.UsedLemmas.{filter_from, on_ok}
use Rattle.wc_world.proofs.live.add_export.Goals as goal

pub add_from_elsewhere-requires : goal.add_from_elsewhere-requires
add_from_elsewhere-requires c = λ t h.
    let r = c.args.context.now.resolve.now in
    let sets = used_view c.args.context.now.used.now in
    let reach : Option InterfaceId = Some c.in-Interface.id in
    let marks = c.deref.result.now in
    let are : AreSettled r sets c.args.live.now marks = subst (AreSettled r sets c.args.live.now) (sym c.deref.ensures.value) c.requires.settled in
    let known = known_to sets c.args.live.now marks reach in
    let item = item_view c.args.item.now in
    let roots = item_roots r item in
    interface_live_in r item (live_from r roots) c.well_formedness.ensures.in_range c.requires.there refl t
    (filter_from (is_new known) (live_from r roots) t
    (subst (λ z. Contains z t) (beside_found r known c.clear.new.self c.add_world_item_beside.new.self roots c.clear.ensures (known_complete r sets c.args.live.now marks c.requires.used are c.requires.complete reach) c.in_ok-add_world_item_beside-in-Interface.ensures.added) h)).0

pub settle_all-requires-clause-there : goal.settle_all-requires-clause-there
settle_all-requires-clause-there c = λ t h.
    let r = c.args.context.now.resolve.now in
    let sets = used_view c.args.context.now.used.now in
    let reach : Option InterfaceId = Some c.in-Interface.id in
    let marks = c.deref.result.now in
    let are : AreSettled r sets c.args.live.now marks = subst (AreSettled r sets c.args.live.now) (sym c.deref.ensures.value) c.requires.settled in
    let known = known_to sets c.args.live.now marks reach in
    let item = item_view c.args.item.now in
    let roots = item_roots r item in
    interface_live_in r item (live_from r roots) c.well_formedness.ensures.in_range c.requires.there refl t
    (filter_from (is_new known) (live_from r roots) t
    (subst (λ z. Contains z t) (beside_found r known c.clear.new.self c.add_world_item_beside.new.self roots c.clear.ensures (known_complete r sets c.args.live.now marks c.requires.used are c.requires.complete reach) c.in_ok-add_world_item_beside-in-Interface.ensures.added) h)).0

pub settle_all-requires-clause-settled : goal.settle_all-requires-clause-settled
settle_all-requires-clause-settled c =
    settled_still c.args.context.now.resolve.now (used_view c.args.context.now.used.now) c.args.live.now c.add_from_elsewhere.new.live c.args.settled.now.items _ c.requires.complete c.in_ok-add_from_elsewhere-in-Interface.ensures c.requires.settled

pub returns-in_ok-add_from_elsewhere-in-Interface-clause-adds : goal.returns-in_ok-add_from_elsewhere-in-Interface-clause-adds
returns-in_ok-add_from_elsewhere-in-Interface-clause-adds c =
    let r = c.args.context.now.resolve.now in
    let sets = used_view c.args.context.now.used.now in
    let reach : Option InterfaceId = Some c.in-Interface.id in
    let marks = c.deref.result.now in
    let are : AreSettled r sets c.args.live.now marks = subst (AreSettled r sets c.args.live.now) (sym c.deref.ensures.value) c.requires.settled in
    let known = known_to sets c.args.live.now marks reach in
    let roots = item_roots r (item_view c.args.item.now) in
    on_ok c.settle_all.result c.settle_all.ensures
    (λ all. subst (AddsListings r c.args.live.now c.add_from_elsewhere.new.live)
    (ap (λ z. elsewhere_from r sets c.in-Interface.id.0 (item_roots r (item_view z))) c.in-Interface.is ∙ ap (λ z. export_roots r sets (item_view z)) (sym c.in-Interface.is))
    (new_for_all r (is_from_elsewhere r sets c.in-Interface.id.0) c.args.live.now known c.add_from_elsewhere.new.live c.add_world_item_beside.new.self roots
    (elsewhere_live r sets c.args.live.now marks c.requires.used are c.in-Interface.id)
    (beside_found r known c.clear.new.self c.add_world_item_beside.new.self roots c.clear.ensures (known_complete r sets c.args.live.now marks c.requires.used are c.requires.complete reach) c.in_ok-add_world_item_beside-in-Interface.ensures.added)
    c.in_ok-add_from_elsewhere-in-Interface.ensures))

pub returns-in-Function-clause-adds : goal.returns-in-Function-clause-adds
returns-in-Function-clause-adds c =
    subst (λ z. OnOk c.add_world_item.result (AddsListings c.args.context.now.resolve.now c.args.live.now c.add_world_item.new.self z))
    (ap (λ z. item_roots c.args.context.now.resolve.now (item_view z)) c.in-Function.is ∙ ap (λ z. export_roots c.args.context.now.resolve.now (used_view c.args.context.now.used.now) (item_view z)) (sym c.in-Function.is)) c.add_world_item.ensures.added

pub returns-in-Function-clause-settled : goal.returns-in-Function-clause-settled
returns-in-Function-clause-settled c =
    on_ok c.add_world_item.result c.add_world_item.ensures.added (λ adds. settled_still c.args.context.now.resolve.now (used_view c.args.context.now.used.now) c.args.live.now c.add_world_item.new.self c.args.settled.now.items _ c.requires.complete adds c.requires.settled)

pub returns-in-TypeItem-clause-adds : goal.returns-in-TypeItem-clause-adds
returns-in-TypeItem-clause-adds c =
    subst (λ z. OnOk c.add_world_item-in-TypeItem.result (AddsListings c.args.context.now.resolve.now c.args.live.now c.add_world_item-in-TypeItem.new.self z))
    (ap (λ z. item_roots c.args.context.now.resolve.now (item_view z)) c.in-TypeItem.is ∙ ap (λ z. export_roots c.args.context.now.resolve.now (used_view c.args.context.now.used.now) (item_view z)) (sym c.in-TypeItem.is)) c.add_world_item-in-TypeItem.ensures.added

pub returns-in-TypeItem-clause-settled : goal.returns-in-TypeItem-clause-settled
returns-in-TypeItem-clause-settled c =
    on_ok c.add_world_item-in-TypeItem.result c.add_world_item-in-TypeItem.ensures.added
    (λ adds. settled_still c.args.context.now.resolve.now (used_view c.args.context.now.used.now) c.args.live.now c.add_world_item-in-TypeItem.new.self c.args.settled.now.items _ c.requires.complete adds c.requires.settled)
