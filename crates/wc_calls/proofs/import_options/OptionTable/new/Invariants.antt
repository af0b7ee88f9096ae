use Rattle.wc_calls.proofs.OptionTableLemmas.{HasPassed}
use Rattle.wc_calls.proofs.import_options.OptionTable.new.Given as goal

abbrev pub invariant-loop-message : goal.invariant-loop-message
invariant-loop-message l = HasPassed l.by_name.entries l.messages l.message-index
