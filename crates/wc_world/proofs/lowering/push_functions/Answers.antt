use Rattle.std.proofs.Common.{◌++◌, ◌∙◌, Some, ap, append-nil, map, sym}
use Rattle.wc_resolve.specs.Views.{function_entry, function_view}
use Rattle.wc_resolve.specs.WellFormed.{IsUsable}
use Rattle.wc_world.specs.Lowering.{Lowerer, function_lowerings}
use Rattle.wc_world.specs.WorldViews.{lowering_entry}
use Rattle.wc_world.specs.Private.LoweringContext.{lowerer_in}
use Rattle.wc_world.proofs.KeptLoweringLemmas.{none_lowered}
use Rattle.wc_world.proofs.LoweringLemmas.{all_rest, joined_end, joined_next}
use Rattle.wc_world.proofs.lowering.push_functions.Goals as goal

pub returns-then-not-has_functions_of : goal.returns-then-not-has_functions_of
returns-then-not-has_functions_of g c = λ imports a.
    let l : Lowerer = lowerer_in g.O.ImportOptions.options_of c.args.context.now imports in
    sym (ap (λ z. map lowering_entry c.args.lowerings.now.items ++ z) (none_lowered l (Some c.args.interface.0) (c.has_functions_of.ensures imports a c.if-not-has_functions_of.true) (map function_entry c.args.functions.now.entries))
    ∙ append-nil (map lowering_entry c.args.lowerings.now.items))

pub loop-name-preserved : goal.loop-name-preserved
loop-name-preserved g c = (
  all_rest (λ e. IsUsable c.args.context.now.resolve.now (function_view e.1)) c.loop-name._name-iterator c.next.new.self (c.in-Some._name.now, c.in-Some.function.now) c.in-Some.ensures.steps c.loop-name.invariant.0,
  λ imports a.
      joined_next (λ e. function_lowerings (lowerer_in g.O.ImportOptions.options_of c.args.context.now imports) (Some c.args.interface.0) e.1) (map function_entry c.args.functions.now.entries)
      (map function_entry c.loop-name._name-iterator) (map function_entry c.next.new.self) (function_entry (c.in-Some._name.now, c.in-Some.function.now)) (map lowering_entry c.args.lowerings.now.items) (map lowering_entry c.loop-name.lowerings.items) (map lowering_entry c.push_function.new.lowerings.items)
      (ap (map function_entry) c.in-Some.ensures.steps) (c.loop-name.invariant.1 imports a) (c.in_ok-push_function.ensures imports a),
)

pub returns : goal.returns
returns g c = λ imports a.
    joined_end (λ e. function_lowerings (lowerer_in g.O.ImportOptions.options_of c.args.context.now imports) (Some c.args.interface.0) e.1) (map function_entry c.args.functions.now.entries)
    (map function_entry c.loop-name._name-iterator) (map lowering_entry c.args.lowerings.now.items) (map lowering_entry c.loop-name.lowerings.items) (ap (map function_entry) c.in-None.ensures.steps.0) (c.loop-name.invariant.1 imports a)
