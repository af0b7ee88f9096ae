use Rattle.wc_read.specs.InitTypes.{IsTyped}
use Rattle.wc_read.specs.Reading.InitTypes.{scope_value}
use Rattle.wc_segments.specs.declared.elements.Expression.{Expression}
use Rattle.wc_segments.proofs.ValidityLemmas.{HoldTo}
use Rattle.wc_segments.proofs.validity.check_expressions.Given as goal

abbrev pub invariant-loop-expression : goal.invariant-loop-expression
invariant-loop-expression l = HoldTo (IsTyped (scope_value l.scope) l.ty) (λ (e : Expression). e.bytes.now) l.expressions l.expression-index
