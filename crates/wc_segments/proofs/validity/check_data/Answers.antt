use Rattle.std.proofs.Common.{◌<◌, ◌≤◌, length, map, arith}
use Rattle.std.proofs.lemmas.Result.{err_from_is_err_and}
use Rattle.wc_read.specs.Items.{memory_value}
use Rattle.wc_read.specs.Reading.InitTypes.{scope_value}
use Rattle.wc_segments.specs.Data.{data_value}
use Rattle.wc_segments.specs.Validity.{IsData}
use Rattle.wc_segments.proofs.ValidityLemmas.{hold_all, hold_more, hold_not}
use Rattle.wc_segments.proofs.validity.check_data.Goals as goal

pub returns-in_err-check_memory : goal.returns-in_err-check_memory
returns-in_err-check_memory c =
    let p = err_from_is_err_and c.from_residual.result c.from_residual.ensures.1 in
    let within : c.loop-segment.segment-index < length c.args.«data».now = omega arith in
    rw (p.1, p.2) (
      (λ real. hold_not (IsData (scope_value c.args.scope.now) (map memory_value c.args.memories.now)) data_value c.args.«data».now
          c.loop-segment.segment-index _ within (c.in_err-check_memory.ensures.0 real)),
      c.in_err-check_memory.ensures.1,
    )

pub loop-segment-preserved : goal.loop-segment-preserved
loop-segment-preserved c =
    let within : c.loop-segment.segment-index < length c.args.«data».now = omega arith in
    hold_more (IsData (scope_value c.args.scope.now) (map memory_value c.args.memories.now)) data_value c.args.«data».now c.loop-segment.segment-index _ within
    c.loop-segment.invariant c.in_ok-check_memory.ensures

pub returns : goal.returns
returns c =
    let over : length c.args.«data».now ≤ c.loop-segment.segment-index = omega arith in
    hold_all (IsData (scope_value c.args.scope.now) (map memory_value c.args.memories.now)) data_value c.args.«data».now c.loop-segment.segment-index over
    c.loop-segment.invariant
