use Rattle.std.proofs.Common.{arith}
use Rattle.wc_read.specs.Text.{number_text}
use Rattle.wc_read.specs.Reading.Reader.{number_at}
use Rattle.wc_read.proofs.ShortestTextLemmas.{number_left}
use Rattle.wc_read.proofs.LabelsLemmas.{labels_sized, numbers_within, text_within}
use Rattle.wc_read.proofs.text_sizes.labels_size.Goals as goal

pub returns : goal.returns
returns c = labels_sized _ _ _ _ _ _ c.in_ok-number_size.ensures (rw c.new-reader.ensures at c.in-Ok.ensures) c.in_ok-last.ensures c.in_ok-size.ensures
