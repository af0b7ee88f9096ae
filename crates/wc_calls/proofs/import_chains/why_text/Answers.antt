use Rattle.std.proofs.lemmas.Result.{err_from_is_err_and}
use Rattle.wc_gc.specs.LiveItems.{trim_input}
use Rattle.wc_calls.proofs.TrimmingLemmas.{memory_explained}
use Rattle.wc_calls.proofs.import_chains.why_text.Goals as goal

pub returns-in_err-text-clause-place : goal.returns-in_err-text-clause-place
returns-in_err-text-clause-place c =
    let p = err_from_is_err_and c.from_residual-in_err-text.result c.from_residual-in_err-text.ensures.1 in
    rw p.1 (memory_explained (trim_input c.args.wasm.now c.args.names.now.keys) p.0.fault p.0.place p.2.0 p.2.1)

pub returns-clause-text : goal.returns-clause-text
returns-clause-text c = (c.in_ok-chains.chains, c.in_ok-chains.ensures.chains, c.in_ok-text.ensures.text)
