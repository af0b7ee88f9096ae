use Rattle.std.proofs.Common.{◌<◌, ◌≤◌, length, arith}
use Rattle.std.proofs.lemmas.Result.{err_from_is_err_and}
use Rattle.wc_read.specs.InitTypes.{IsTyped}
use Rattle.wc_read.specs.Reading.InitTypes.{scope_value}
use Rattle.wc_segments.specs.declared.elements.Expression.{Expression}
use Rattle.wc_segments.proofs.ValidityLemmas.{hold_all, hold_more, hold_not}
use Rattle.wc_segments.proofs.validity.check_expressions.Goals as goal

pub returns-in_err-check_init : goal.returns-in_err-check_init
returns-in_err-check_init c =
    let p = err_from_is_err_and c.from_residual.result c.from_residual.ensures.1 in
    let within : c.loop-expression.expression-index < length c.args.expressions.now = omega arith in
    rw (p.1, p.2) (
      (λ real. hold_not (IsTyped (scope_value c.args.scope.now) c.args.ty) (λ (e : Expression). e.bytes.now) c.args.expressions.now
          c.loop-expression.expression-index _ within (c.in_err-check_init.ensures.0 real)),
      c.in_err-check_init.ensures.1,
    )

pub loop-expression-preserved : goal.loop-expression-preserved
loop-expression-preserved c =
    let within : c.loop-expression.expression-index < length c.args.expressions.now = omega arith in
    hold_more (IsTyped (scope_value c.args.scope.now) c.args.ty) (λ (e : Expression). e.bytes.now) c.args.expressions.now c.loop-expression.expression-index _
    within c.loop-expression.invariant c.in_ok-check_init.ensures

pub returns : goal.returns
returns c =
    let over : length c.args.expressions.now ≤ c.loop-expression.expression-index = omega arith in
    hold_all (IsTyped (scope_value c.args.scope.now) c.args.ty) (λ (e : Expression). e.bytes.now) c.args.expressions.now c.loop-expression.expression-index over
    c.loop-expression.invariant
