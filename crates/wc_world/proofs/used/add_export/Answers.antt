use Rattle.std.proofs.Common.{◌++◌, ◌∷◌, [], ap, sym, subst, string_bytes}
use Rattle.std.specs.Option.{option_map}
use Rattle.wc_resolve.specs.Views.{item_view}
use Rattle.wc_encoder.specs.Distinct.{item_interface}
use Rattle.wc_adapters.specs.Entries.{entries_of}
use Rattle.wc_world.specs.Used.{HasUsedSets, IsReady, has_interface, used_view}
use Rattle.wc_world.proofs.UsedLemmas.{set_put}
use Rattle.wc_world.proofs.UsedWalkLemmas.{sets_same, sets_with}
use Rattle.wc_world.proofs.used.add_export.Goals as goal

pub used_by-requires-clause-known : goal.used_by-requires-clause-known
used_by-requires-clause-known c = subst (λ z. IsReady c.args.resolve.now (entries_of c.args.exports.now) (used_view c.args.used.now) (item_view z)) c.in-Interface.is c.requires.ready

pub returns-in_ok-insert-in-Interface : goal.returns-in_ok-insert-in-Interface
returns-in_ok-insert-in-Interface c = λ passed key h.
    subst (λ z. HasUsedSets c.args.resolve.now (entries_of c.args.exports.now) (passed ++ (key, item_view z) ∷ []) (used_view c.insert.new.self)) (sym c.in-Interface.is)
    (sets_with c.args.resolve.now (entries_of c.args.exports.now) passed (used_view c.args.used.now) (used_view c.insert.new.self) key c.in-Interface.id.0 (option_map string_bytes c.in-Interface.external_id) (has_interface c.in_ok-set-in-Interface.set)
    (λ j. set_put c.args.used.now c.insert.new.self c.in-Interface.id c.in_ok-set-in-Interface.set j (c.in_ok-insert-in-Interface.ensures.updates.0 (record { 0 = j }))) c.in_ok-set-in-Interface.ensures h)

pub returns-in-Function : goal.returns-in-Function
returns-in-Function c = λ passed key h.
    sets_same c.args.resolve.now (entries_of c.args.exports.now) passed (used_view c.args.used.now) (key, item_view c.args.item.now) (ap (λ z. item_interface (item_view z)) c.in-Function.is) h

pub returns-in-TypeItem : goal.returns-in-TypeItem
returns-in-TypeItem c = λ passed key h.
    sets_same c.args.resolve.now (entries_of c.args.exports.now) passed (used_view c.args.used.now) (key, item_view c.args.item.now) (ap (λ z. item_interface (item_view z)) c.in-TypeItem.is) h
