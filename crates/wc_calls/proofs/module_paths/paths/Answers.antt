use Rattle.wc_calls.specs.ExportNames.{texts}
use Rattle.wc_calls.specs.ModulePaths.{IsPathsAnswer}
use Rattle.wc_calls.proofs.ModulePathLemmas.{paths_fault}
use Rattle.wc_calls.proofs.TrimmingLemmas.{put_of, statuses_of, too_long_of}
use Rattle.wc_calls.proofs.module_paths.paths.Goals as goal

pub returns-clause-done : goal.returns-clause-done
returns-clause-done c =
    let p = c.put_text_or_fault in
    let answer = IsPathsAnswer c.args.wasm.now (texts c.args.exports.now) (texts c.args.imports.now) in
    put_of (λ v. v.items) answer c.paths_text-text.result p.result.status p.result.length c.args.out.now p.new.out c.paths_text-text.ensures.text
    p.ensures.length p.ensures.done p.ensures.refused

pub returns-clause-too_small : goal.returns-clause-too_small
returns-clause-too_small c =
    let p = c.put_text_or_fault in
    let answer = IsPathsAnswer c.args.wasm.now (texts c.args.exports.now) (texts c.args.imports.now) in
    too_long_of (λ v. v.items) answer c.paths_text-text.result p.result.status p.result.length c.args.out.now c.paths_text-text.ensures.text
    p.ensures.length p.ensures.too_small p.ensures.refused

pub returns-clause-fault : goal.returns-clause-fault
returns-clause-fault c =
    let p = c.put_text_or_fault in
    paths_fault c.args.wasm.now (texts c.args.exports.now) c.paths_text-text.result p.result c.args.out.now p.new.out c.paths_text-text.ensures.refused
    p.ensures.ok p.ensures.memory p.ensures.fault

pub returns-clause-statuses : goal.returns-clause-statuses
returns-clause-statuses c =
    let p = c.put_text_or_fault in
    let s = statuses_of c.paths_text-text.result p.result.status p.ensures.ok p.ensures.fault_or_memory in
    (s.0, s.1)
