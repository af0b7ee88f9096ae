use Rattle.wc_read.specs.Operators.{instr_value}
use Rattle.wc_read.specs.InitOperators.{init_left}
use Rattle.wc_gc.specs.NewIndices.{new_of}
use Rattle.wc_gc.proofs.RewriteLemmas.{write_more, write_end}
use Rattle.wc_gc.proofs.rewrite.append_init_operators.Goals as goal

pub loop-operator-preserved : goal.loop-operator-preserved
loop-operator-preserved c =
    write_more (new_of c.args.new.now) c.args.out.now.items (init_left c.args.operators.now) c.loop-operator.out.items (init_left c.loop-operator.operators) (instr_value c.in-Some.operator) (init_left c.next_of_init.new.operators) c.append_renumbered.new.out.items
    c.loop-operator.invariant (rw c.in-Some.is at c.in_ok-operator.ensures.found) c.in_ok-append_renumbered.ensures

pub returns : goal.returns
returns c =
    write_end (new_of c.args.new.now) c.args.out.now.items (init_left c.args.operators.now) c.loop-operator.out.items (init_left c.loop-operator.operators)
    c.loop-operator.invariant (rw c.in_default.is at c.in_ok-operator.ensures.found)
