use Rattle.std.proofs.Common.{◌<◌, ◌≤◌, length, map, sym, subst, arith}
use Rattle.std.proofs.lemmas.Result.{err_from_is_err_and}
use Rattle.wc_read.specs.Items.{table_value}
use Rattle.wc_read.specs.Reading.InitTypes.{scope_value}
use Rattle.wc_segments.specs.Elements.{element_value}
use Rattle.wc_segments.specs.Validity.{IsElement}
use Rattle.wc_segments.specs.declared.elements.ElementSegment.{ElementSegment}
use Rattle.wc_segments.proofs.ValidityLemmas.{hold_all, hold_more, hold_not}
use Rattle.wc_segments.proofs.validity.check_elements.Goals as goal

pub returns-in_err-check_element : goal.returns-in_err-check_element
returns-in_err-check_element c =
    let P = IsElement (scope_value c.args.scope.now) (map table_value c.args.tables.now) in
    let p = err_from_is_err_and c.from_residual.result c.from_residual.ensures.1 in
    let within : c.loop-element.element-index < length c.args.elements.now = omega arith in
    rw (p.1, p.2) (
      (λ real. hold_not P element_value c.args.elements.now c.loop-element.element-index c.element-item.result within
          (λ h. c.in_err-check_element.ensures.0 real (subst (λ (e : ElementSegment). P (element_value e)) (sym c.element-item.is) h))),
      c.in_err-check_element.ensures.1,
    )

pub loop-element-preserved : goal.loop-element-preserved
loop-element-preserved c =
    let P = IsElement (scope_value c.args.scope.now) (map table_value c.args.tables.now) in
    let within : c.loop-element.element-index < length c.args.elements.now = omega arith in
    hold_more P element_value c.args.elements.now c.loop-element.element-index c.element-item.result within c.loop-element.invariant
    (subst (λ (e : ElementSegment). P (element_value e)) c.element-item.is c.in_ok-check_element.ensures)

pub returns : goal.returns
returns c =
    let over : length c.args.elements.now ≤ c.loop-element.element-index = omega arith in
    hold_all (IsElement (scope_value c.args.scope.now) (map table_value c.args.tables.now)) element_value c.args.elements.now c.loop-element.element-index over
    c.loop-element.invariant
