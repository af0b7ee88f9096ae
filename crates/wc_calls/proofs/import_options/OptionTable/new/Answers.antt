use Rattle.wc_calls.proofs.OptionTableLemmas.{all_passed, passed_again, passed_new}
use Rattle.wc_calls.proofs.import_options.OptionTable.new.Goals as goal
use Rattle.wc_calls.proofs.import_options.OptionTable.new.Goals.{then-not-contains_key+in_ok-clone+in_ok-insert, else-not-contains_key}

pub loop-message-preserved : goal.loop-message-preserved
loop-message-preserved c =
    elim c.if-not-contains_key.branch [
      | then-not-contains_key+in_ok-clone+in_ok-insert w ↦
          rw w.by_name-is (passed_new c.loop-message.by_name.entries c.args.messages.now c.loop-message.message-index _ c.message-item.result
          c.as_str.result.now c.contains_key.result c.loop-message-test.true c.message-item.is c.as_str.ensures.value c.contains_key.ensures
          c.loop-message.invariant w.insert.new.self.entries w.in_ok-clone.field-0 w.option_set.result w.if-not-contains_key.true w.in_ok-clone.ensures.cases w.option_set.ensures
          w.in_ok-insert.ensures.entries)
      | else-not-contains_key w ↦
          rw w.by_name-is (passed_again c.loop-message.by_name.entries c.args.messages.now c.loop-message.message-index _ c.message-item.result
          c.as_str.result.now c.contains_key.result c.loop-message-test.true c.message-item.is c.as_str.ensures.value c.contains_key.ensures
          c.loop-message.invariant w.if-not-contains_key.false)
    ]

pub returns : goal.returns
returns c = all_passed c.loop-message.by_name.entries c.args.messages.now c.loop-message.message-index c.loop-message-test.false c.loop-message.invariant
