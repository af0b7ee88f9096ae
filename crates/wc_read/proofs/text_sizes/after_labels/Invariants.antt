use Rattle.wc_read.proofs.LabelsLemmas.{ArePassed}
use Rattle.wc_read.proofs.text_sizes.after_labels.Given as goal

abbrev pub invariant-loop : goal.invariant-loop
invariant-loop l = ArePassed l.input l.count l.counter l.rest
