use Rattle.std.proofs.Common.{map}
use Rattle.wc_read.specs.Items.{memory_value}
use Rattle.wc_read.specs.Reading.InitTypes.{scope_value}
use Rattle.wc_segments.specs.Data.{data_value}
use Rattle.wc_segments.specs.Validity.{IsData}
use Rattle.wc_segments.proofs.ValidityLemmas.{HoldTo}
use Rattle.wc_segments.proofs.validity.check_data.Given as goal

abbrev pub invariant-loop-segment : goal.invariant-loop-segment
invariant-loop-segment l = HoldTo (IsData (scope_value l.scope) (map memory_value l.memories)) data_value l.«data» l.segment-index
