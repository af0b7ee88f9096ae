use Rattle.std.proofs.Common.{◌<◌, length, refl, arith}
use Rattle.wc_paths.proofs.NamesLemmas.{appended, locals_join, locals_parts}
use Rattle.wc_paths.proofs.items.put_locals.Goals as goal

pub loop-run-preserved : goal.loop-run-preserved
loop-run-preserved c =
    let within : c.loop-run.run-index < length c.args.runs.now = omega arith in
    appended locals_parts locals_join c.args.runs.now c.loop-run.run-index _ c.args.names.now.items c.loop-run.names.items c.put_type.new.names.items _ within
    c.loop-run.invariant c.in_ok-put_type.ensures refl
