use Rattle.std.proofs.Common.{ap, map, subst, sym}
use Rattle.wc_resolve.specs.Views.{item_view, key_view, world_entry}
use Rattle.wc_adapters.specs.Entries.{Entries}
use Rattle.wc_world.specs.Lowering.{IsImportable, Lowerer}
use Rattle.wc_world.specs.Views.{ImportMapView}
use Rattle.wc_world.specs.WorldViews.{imported_entry}
use Rattle.wc_world.specs.Private.LoweringContext.{lowerer_in}
use Rattle.wc_world.proofs.ImportEntryLemmas.{AreAll, add_interface, add_nothing, add_own}
use Rattle.wc_world.proofs.LoweringLemmas.{all_rest}
use Rattle.wc_world.proofs.import_map.import_entries.Goals as goal

pub loop-key-preserved-in-Continue-1 : goal.loop-key-preserved-in-Continue-1
loop-key-preserved-in-Continue-1 g c = (
  all_rest (λ e. IsImportable c.args.context.now.resolve.now (world_entry e)) c.loop-key.key-iterator c.next.new.self (c.in-Some.key.now, c.in-Some.item.now) c.in-Some.ensures.steps c.loop-key.invariant.0,
  (
    λ imports a. c.in_ok-add_interface.ensures.kept imports a (c.loop-key.invariant.1.0 imports a),
    λ imports a keys distinct.
        add_interface (lowerer_in g.O.ImportOptions.options_of c.args.context.now imports) (map world_entry c.args.items.now.entries) distinct
        (map imported_entry c.loop-key.entries.entries) (map world_entry c.loop-key.key-iterator) (map world_entry c.next.new.self) (key_view c.in-Some.key.now) (item_view c.in-Some.item.now) (ap (map world_entry) c.in-Some.ensures.steps)
        c.loop-key.has_own c.in-Some-interface_of.id.0 (map imported_entry c.add_interface.new.entries.entries) (sym c.in-Some-interface_of.ensures) (c.in_ok-add_interface.ensures.added imports a (c.loop-key.invariant.1.0 imports a)) (c.loop-key.invariant.1.1 imports a keys distinct),
  ),
)

pub loop-key-preserved-then-not-has_own : goal.loop-key-preserved-then-not-has_own
loop-key-preserved-then-not-has_own g c = (
  all_rest (λ e. IsImportable c.args.context.now.resolve.now (world_entry e)) c.loop-key.key-iterator c.next.new.self (c.in-Some.key.now, c.in-Some.item.now) c.in-Some.ensures.steps c.loop-key.invariant.0,
  (
    c.loop-key.invariant.1.0,
    λ imports a keys distinct.
        let l : Lowerer = lowerer_in g.O.ImportOptions.options_of c.args.context.now imports in
        let all : Entries = map world_entry c.args.items.now.entries in
        let found : ImportMapView = map imported_entry c.loop-key.entries.entries in
        add_own l all distinct found (map world_entry c.loop-key.key-iterator) (map world_entry c.next.new.self) (key_view c.in-Some.key.now) (item_view c.in-Some.item.now) (ap (map world_entry) c.in-Some.ensures.steps)
        (map imported_entry c.add_own.new.entries.entries) (sym c.in_default.ensures) (c.in_ok-add_own.ensures imports a keys)
        (subst (λ b. AreAll l all found b (map world_entry c.loop-key.key-iterator)) c.if-not-has_own.true (c.loop-key.invariant.1.1 imports a keys distinct)),
  ),
)

pub loop-key-preserved : goal.loop-key-preserved
loop-key-preserved g c = (
  all_rest (λ e. IsImportable c.args.context.now.resolve.now (world_entry e)) c.loop-key.key-iterator c.next.new.self (c.in-Some.key.now, c.in-Some.item.now) c.in-Some.ensures.steps c.loop-key.invariant.0,
  (
    c.loop-key.invariant.1.0,
    λ imports a keys distinct.
        let l : Lowerer = lowerer_in g.O.ImportOptions.options_of c.args.context.now imports in
        let all : Entries = map world_entry c.args.items.now.entries in
        let found : ImportMapView = map imported_entry c.loop-key.entries.entries in
        subst (λ b. AreAll l all found b (map world_entry c.next.new.self)) (sym c.if-not-has_own.false)
        (add_nothing l all distinct found (map world_entry c.loop-key.key-iterator) (map world_entry c.next.new.self) (key_view c.in-Some.key.now) (item_view c.in-Some.item.now) (ap (map world_entry) c.in-Some.ensures.steps) (sym c.in_default.ensures)
        (subst (λ b. AreAll l all found b (map world_entry c.loop-key.key-iterator)) c.if-not-has_own.false (c.loop-key.invariant.1.1 imports a keys distinct))),
  ),
)
