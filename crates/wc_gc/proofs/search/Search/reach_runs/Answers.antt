use Rattle.std.proofs.Common.{◌<◌, length, arith}
use Rattle.wc_read.specs.Decoded.{decoded_module}
use Rattle.wc_gc.proofs.ReachLemmas.{run_more}
use Rattle.wc_gc.proofs.search.Search.reach_runs.Goals as goal

pub loop-run-preserved : goal.loop-run-preserved
loop-run-preserved g c =
    let within : c.loop-run.run-index < length c.args.runs.now = omega arith in
    run_more g.L.LiveSet.has (decoded_module c.args.adapter.now) c.args.runs.now c.loop-run.run-index _ c.args.self.now
    c.loop-run.self c.reach_type.new.self c.loop-run.there c.in_ok-there.field-0 within
    c.loop-run.invariant c.in_ok-there.ensures.found c.in_ok-there.ensures.there
