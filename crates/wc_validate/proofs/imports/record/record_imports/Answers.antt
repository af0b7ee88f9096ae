use Rattle.wc_validate.specs.Private.Imports.Contexts.{import_scope, types_of}
use Rattle.wc_validate.proofs.ExplainLemmas.{recorded_all, recorded_more, stop_at}
use Rattle.wc_validate.proofs.imports.record.record_imports.Goals as goal

pub returns-in-Err-clause-refused : goal.returns-in-Err-clause-refused
returns-in-Err-clause-refused c = λ library has.
    let p = c.loop-index.invariant library has in
    stop_at (import_scope c.args.context.now library) c.args.imports.now c.loop-index.index _ c.loop-index.recorder c.in-Err.cause.fault
    c.loop-index-test.true (types_of c.in-Err.cause) p (c.in-Err.ensures.fault library p.0 has p.2)

pub loop-index-preserved : goal.loop-index-preserved
loop-index-preserved c = λ library has.
    let p = c.loop-index.invariant library has in
    recorded_more (import_scope c.args.context.now library) c.args.imports.now c.loop-index.index _ c.loop-index.recorder c.record_one.new.recorder
    c.loop-index-test.true p (c.in_default.ensures.recorded library p.0 has p.2)

pub returns-clause-recorded : goal.returns-clause-recorded
returns-clause-recorded c = λ library has.
    recorded_all (import_scope c.args.context.now library) c.args.imports.now c.loop-index.index c.loop-index.recorder c.loop-index-test.false
    (c.loop-index.invariant library has)
