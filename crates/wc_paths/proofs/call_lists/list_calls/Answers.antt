use Rattle.std.proofs.Common.{◌<◌, length, ap, sym, ◌∙◌, arith}
use Rattle.wc_read.specs.Operators.{instr_value}
use Rattle.wc_paths.specs.Private.CallLists.{call_key}
use Rattle.wc_paths.proofs.CallListLemmas.{lists_kept, lists_more}
use Rattle.wc_paths.proofs.call_lists.list_calls.Goals as goal
use Rattle.wc_paths.proofs.call_lists.list_calls.Goals.{in-Some+in_ok-list_once, in_default}

pub loop-operator-preserved : goal.loop-operator-preserved
loop-operator-preserved c =
    let firsts = c.args.firsts.now in
    let ops = c.args.operators.now in
    let i = c.loop-operator.operator-index in
    let d = c.operator-item.result in
    let old = c.args.lists.now.entries in
    let now = c.loop-operator.lists.entries in
    let lt : i < length ops = omega arith in
    let key = ap (λ z. call_key firsts (instr_value z).immediates) (sym c.operator-item.is) ∙ sym c.call_key.ensures in
    elim c.match-call_key.branch [
      | in-Some+in_ok-list_once w ↦ rw w.lists-is (lists_more firsts ops i d c.args.function w.in-Some.key old now w.list_once.new.lists.entries lt
          (key ∙ w.in-Some.is) c.loop-operator.invariant w.in_ok-list_once.ensures)
      | in_default w ↦ rw w.lists-is (lists_kept firsts ops i d c.args.function old now lt (key ∙ w.in_default.is) c.loop-operator.invariant)
    ]
