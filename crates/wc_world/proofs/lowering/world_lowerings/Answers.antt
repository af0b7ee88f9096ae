use Rattle.std.proofs.Common.{[], ap, map}
use Rattle.wc_resolve.specs.Views.{item_view, world_entry}
use Rattle.wc_world.specs.Lowering.{IsLowerable, item_lowerings}
use Rattle.wc_world.specs.WorldViews.{lowering_entry}
use Rattle.wc_world.specs.Private.LoweringContext.{lowerer_in}
use Rattle.wc_world.proofs.LoweringLemmas.{all_rest, joined_end, joined_next}
use Rattle.wc_world.proofs.lowering.world_lowerings.Goals as goal

pub loop-key-preserved : goal.loop-key-preserved
loop-key-preserved g c = (
  all_rest (λ e. IsLowerable c.args.context.now.resolve.now (item_view e.1)) c.loop-key._key-iterator c.next.new.self (c.in-Some._key.now, c.in-Some.item.now) c.in-Some.ensures.steps c.loop-key.invariant.0,
  λ imports a.
      joined_next (λ e. item_lowerings (lowerer_in g.O.ImportOptions.options_of c.args.context.now imports) e.1) (map world_entry c.args.items.now.entries)
      (map world_entry c.loop-key._key-iterator) (map world_entry c.next.new.self) (world_entry (c.in-Some._key.now, c.in-Some.item.now)) [] (map lowering_entry c.loop-key.lowerings.items) (map lowering_entry c.push_item.new.lowerings.items)
      (ap (map world_entry) c.in-Some.ensures.steps) (c.loop-key.invariant.1 imports a) (c.in_ok-push_item.ensures imports a),
)

pub returns : goal.returns
returns g c = λ imports a.
    joined_end (λ e. item_lowerings (lowerer_in g.O.ImportOptions.options_of c.args.context.now imports) e.1) (map world_entry c.args.items.now.entries)
    (map world_entry c.loop-key._key-iterator) [] (map lowering_entry c.loop-key.lowerings.items) (ap (map world_entry) c.in-None.ensures.steps.0) (c.loop-key.invariant.1 imports a)
