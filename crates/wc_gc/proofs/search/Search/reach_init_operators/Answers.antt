use Rattle.wc_read.specs.Operators.{instr_value}
use Rattle.wc_read.specs.InitOperators.{init_left}
use Rattle.wc_read.specs.Decoded.{decoded_module}
use Rattle.wc_gc.proofs.ReachLemmas.{init_start, init_more, init_end}
use Rattle.wc_gc.proofs.search.Search.reach_init_operators.Goals as goal

pub loop-operator-init : goal.loop-operator-init
loop-operator-init g c = init_start g.L.LiveSet.has (decoded_module c.args.adapter.now) (init_left c.args.operators.now) c.args.self.now c.requires

pub loop-operator-preserved : goal.loop-operator-preserved
loop-operator-preserved g c =
    init_more g.L.LiveSet.has (decoded_module c.args.adapter.now) (init_left c.args.operators.now) c.args.self.now c.loop-operator.self c.reach_operator.new.self
    (init_left c.loop-operator.operators) (init_left c.next_of_init.new.operators) (instr_value c.in-Some.operator) c.loop-operator.invariant
    (rw c.in-Some.is at c.in_ok-operator.ensures.found) c.in_ok-reach_operator.ensures.found

pub loop-operator-preserved-in_ok-reach_operator : goal.loop-operator-preserved-in_ok-reach_operator
loop-operator-preserved-in_ok-reach_operator g c =
    init_more g.L.LiveSet.has (decoded_module c.args.adapter.now) (init_left c.args.operators.now) c.args.self.now c.loop-operator.self c.reach_operator.new.self
    (init_left c.loop-operator.operators) (init_left c.next_of_init.new.operators) (instr_value c.in-Some.operator) c.loop-operator.invariant
    (rw c.in-Some.is at c.in_ok-operator.ensures.found) c.in_ok-reach_operator.ensures.found

pub loop-operator-preserved-in_ok-reach_operator-2 : goal.loop-operator-preserved-in_ok-reach_operator-2
loop-operator-preserved-in_ok-reach_operator-2 g c =
    init_more g.L.LiveSet.has (decoded_module c.args.adapter.now) (init_left c.args.operators.now) c.args.self.now c.loop-operator.self c.reach_operator.new.self
    (init_left c.loop-operator.operators) (init_left c.next_of_init.new.operators) (instr_value c.in-Some.operator) c.loop-operator.invariant
    (rw c.in-Some.is at c.in_ok-operator.ensures.found) c.in_ok-reach_operator.ensures.found

pub returns : goal.returns
returns g c =
    init_end g.L.LiveSet.has (decoded_module c.args.adapter.now) (init_left c.args.operators.now) c.args.self.now c.loop-operator.self
    (init_left c.loop-operator.operators) c.loop-operator.invariant (rw c.in_default.is at c.in_ok-operator.ensures.found)
