use Rattle.std.proofs.Common.{false, sym, true}
use Rattle.wcplan_inputs.proofs.ArgumentLemmas.{apart}
use Rattle.wcplan_inputs.proofs.arguments.are_inputs_apart.Goals as goal

pub returns-in-true-false : goal.returns-in-true-false
returns-in-true-false c =
    apart c.args.command.now.worlds.now c.args.command.now.main.now c.args.command.now.adapters.items c.deref.result.now true false c.count_standard-adapters.result
    (sym c.in-true-false.ensures) (sym c.in-true-false.ensures')
    c.deref.ensures.value c.count_standard-adapters.ensures

pub returns-in-false-true : goal.returns-in-false-true
returns-in-false-true c =
    apart c.args.command.now.worlds.now c.args.command.now.main.now c.args.command.now.adapters.items c.deref.result.now false true c.count_standard-adapters.result
    (sym c.in-false-true.ensures) (sym c.in-false-true.ensures')
    c.deref.ensures.value c.count_standard-adapters.ensures

pub returns-in-false-false : goal.returns-in-false-false
returns-in-false-false c =
    apart c.args.command.now.worlds.now c.args.command.now.main.now c.args.command.now.adapters.items c.deref.result.now false false c.count_standard-adapters.result
    (sym c.in-false-false.ensures) (sym c.in-false-false.ensures')
    c.deref.ensures.value c.count_standard-adapters.ensures
