use Rattle.std.specs.Option.{option_map}
use Rattle.wc_read.specs.Operators.{instr_value}
use Rattle.wc_read.specs.BodyOperators.{next_and_left, operators_left}
use Rattle.wc_gc.proofs.RewriteLemmas.{next_found}
use Rattle.wc_gc.proofs.rewrite.next_after_run.Goals as goal

pub returns-clause-written : goal.returns-clause-written
returns-clause-written c =
    next_found c.next_of.result (λ i. next_and_left (option_map instr_value i) (operators_left c.next_of.new.operators)) c.args.out.now.items c.append_run.new.out.items
    (operators_left c.args.operators.now) (operators_left c.append_run.new.operators) c.in_ok-append_run.ensures.written c.next_of.ensures.found
