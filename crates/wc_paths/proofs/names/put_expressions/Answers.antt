use Rattle.std.proofs.Common.{◌<◌, length, arith}
use Rattle.wc_segments.specs.declared.elements.Expression.{Expression}
use Rattle.wc_paths.proofs.NamesLemmas.{expressions_more}
use Rattle.wc_paths.proofs.names.put_expressions.Goals as goal

pub loop-expression-preserved : goal.loop-expression-preserved
loop-expression-preserved c =
    let within : c.loop-expression.expression-index < length c.args.expressions.now = omega arith in
    expressions_more (λ (e : Expression). e.bytes.now) c.args.expressions.now c.loop-expression.expression-index _ c.args.names.now.items
    c.loop-expression.names.items c.put_init.new.names.items within c.loop-expression.invariant c.in_ok-put_init.ensures
