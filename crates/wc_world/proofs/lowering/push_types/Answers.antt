use Rattle.std.proofs.Common.{◌<◌, ap, length, map}
use Rattle.wc_resolve.specs.Views.{type_entry}
use Rattle.wc_world.specs.Lowering.{type_lowerings}
use Rattle.wc_world.specs.WorldViews.{lowering_entry}
use Rattle.wc_world.specs.Private.LoweringContext.{lowerer_in}
use Rattle.wc_world.proofs.LoweringLemmas.{all_rest, joined_end, joined_next}
use Rattle.wc_world.proofs.lowering.push_types.Goals as goal

pub loop-name-preserved : goal.loop-name-preserved
loop-name-preserved g c = (
  all_rest (λ e. e.1.0 < length c.args.context.now.resolve.now.types) c.loop-name._name-iterator c.next.new.self (c.in-Some._name.now, c.in-Some.id.now) c.in-Some.ensures.steps c.loop-name.invariant.0,
  λ imports a.
      joined_next (λ e. type_lowerings (lowerer_in g.O.ImportOptions.options_of c.args.context.now imports) e.1) (map type_entry c.args.types.now.entries)
      (map type_entry c.loop-name._name-iterator) (map type_entry c.next.new.self) (type_entry (c.in-Some._name.now, c.in-Some.id.now)) (map lowering_entry c.args.lowerings.now.items) (map lowering_entry c.loop-name.lowerings.items) (map lowering_entry c.push_type.new.lowerings.items)
      (ap (map type_entry) c.in-Some.ensures.steps) (c.loop-name.invariant.1 imports a) (c.in_ok-push_type.ensures imports a),
)

pub returns : goal.returns
returns g c = λ imports a.
    joined_end (λ e. type_lowerings (lowerer_in g.O.ImportOptions.options_of c.args.context.now imports) e.1) (map type_entry c.args.types.now.entries)
    (map type_entry c.loop-name._name-iterator) (map lowering_entry c.args.lowerings.now.items) (map lowering_entry c.loop-name.lowerings.items) (ap (map type_entry) c.in-None.ensures.steps.0) (c.loop-name.invariant.1 imports a)
