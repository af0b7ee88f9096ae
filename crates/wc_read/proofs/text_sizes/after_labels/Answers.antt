use Rattle.std.proofs.Common.{arith}
use Rattle.wc_read.specs.Text.{number_text}
use Rattle.wc_read.specs.Reading.Reader.{number_at}
use Rattle.wc_read.proofs.LabelsLemmas.{none_passed, one_passed, all_passed, text_within}
use Rattle.wc_read.proofs.text_sizes.after_labels.Goals as goal

pub loop-init : goal.loop-init
loop-init c = none_passed c.args.input.now c.args.count

pub split_at-requires : goal.split_at-requires
split_at-requires c = text_within (number_at 32) number_text _ _ c.in_ok-size.ensures

pub loop-preserved : goal.loop-preserved
loop-preserved c = one_passed _ _ _ _ _ _ c.loop.invariant c.loop-test.true c.in_ok-size.ensures c.split_at.ensures.back

pub returns : goal.returns
returns c = all_passed _ _ _ _ c.loop.invariant (omega arith)
