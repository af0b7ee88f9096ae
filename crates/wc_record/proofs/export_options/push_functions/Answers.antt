use Rattle.std.proofs.Common.{List, String, Some, [], ◌∷◌, ap, map}
use Rattle.std.specs.declared.alloc.Global.{Global}
use Rattle.wc_resolve.specs.declared.functions.Function.{Function}
use Rattle.wc_resolve.specs.Views.{function_entry, function_view}
use Rattle.wc_resolve.specs.WellFormed.{IsUsable}
use Rattle.wc_world.proofs.LoweringLemmas.{all_rest}
use Rattle.wc_record.specs.ExportOptions.{LiftedView, lifted_function, lifted_functions}
use Rattle.wc_record.specs.Private.ExportOptions.{lifted_view}
use Rattle.wc_record.proofs.ExportOptionLemmas.{added_end, added_next}
use Rattle.wc_record.proofs.export_options.push_functions.Goals as goal

pub loop-name-preserved : goal.loop-name-preserved
loop-name-preserved c =
    let give : List (String Global × Function) → List LiftedView = λ es. lifted_functions c.args.resolve.now c.args.id.0 (map function_entry es) in (
      all_rest (λ e. IsUsable c.args.resolve.now (function_view e.1)) c.loop-name._name-iterator c.next.new.self
          (c.in-Some._name.now, c.in-Some.function.now) c.in-Some.ensures.steps c.loop-name.invariant.0,
      added_next give c.args.functions.now.entries c.loop-name._name-iterator c.next.new.self
          (lifted_function c.args.resolve.now (Some c.args.id.0) (function_view c.in-Some.function.now) ∷ []) (map lifted_view c.args.list.now.items)
          (map lifted_view c.loop-name.list.items) (map lifted_view c.push_function.new.list.items) (ap give c.in-Some.ensures.steps)
          c.in_ok-push_function.ensures c.loop-name.invariant.1,
    )

pub returns : goal.returns
returns c =
    let give : List (String Global × Function) → List LiftedView = λ es. lifted_functions c.args.resolve.now c.args.id.0 (map function_entry es) in
    added_end give c.args.functions.now.entries c.loop-name._name-iterator (map lifted_view c.args.list.now.items)
    (map lifted_view c.loop-name.list.items) (ap give c.in-None.ensures.steps.0) c.loop-name.invariant.1
