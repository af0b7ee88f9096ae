use Rattle.std.proofs.Common.{[], ◌∷◌, Some, refl}
use Rattle.std.specs.Option.{option_map}
use Rattle.wc_read.specs.Operators.{instr_value}
use Rattle.wc_read.specs.BodyOperators.{operators_left}
use Rattle.wc_gc.specs.NewIndices.{new_of}
use Rattle.wc_gc.proofs.RewriteLemmas.{first_memory, write_passed, write_more, write_end}
use Rattle.wc_gc.proofs.rewrite.append_operators.Goals as goal

pub loop-operator-preserved : goal.loop-operator-preserved
loop-operator-preserved c =
    let left = option_map (λ is. instr_value c.in-Some.operator ∷ is) (operators_left c.next_after_run.new.operators) in
    write_more (new_of c.args.new.now) c.args.out.now.items (operators_left c.args.operators.now) c.next_after_run.new.out.items left (instr_value c.in-Some.operator) (operators_left c.next_after_run.new.operators) c.append_renumbered.new.out.items
    (write_passed (new_of c.args.new.now) c.args.out.now.items (operators_left c.args.operators.now) c.loop-operator.out.items (operators_left c.loop-operator.operators) c.next_after_run.new.out.items left c.loop-operator.invariant
    (rw c.in-Some.is at c.in_ok-operator.ensures.some) (rw c.in-Some.is at (c.in_ok-operator.ensures.written (new_of c.args.new.now) (first_memory c.args.new.now)))) refl c.in_ok-append_renumbered.ensures

pub returns : goal.returns
returns c =
    write_end (new_of c.args.new.now) c.args.out.now.items (operators_left c.args.operators.now) c.next_after_run.new.out.items (Some [])
    (write_passed (new_of c.args.new.now) c.args.out.now.items (operators_left c.args.operators.now) c.loop-operator.out.items (operators_left c.loop-operator.operators) c.next_after_run.new.out.items (Some []) c.loop-operator.invariant
    refl (rw c.in_default.is at (c.in_ok-operator.ensures.written (new_of c.args.new.now) (first_memory c.args.new.now)))) refl
