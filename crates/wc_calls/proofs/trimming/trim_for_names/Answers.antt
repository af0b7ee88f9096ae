use Rattle.wc_gc.specs.LiveItems.{names_of, trim_input_for_names}
use Rattle.wc_gc.specs.Parts.{settings}
use Rattle.wc_gc.specs.Trim.{IsTrimFault}
use Rattle.wc_gc.specs.TrimmedText.{IsTrimmed}
use Rattle.wc_calls.specs.ExportNames.{texts}
use Rattle.wc_calls.proofs.ExportNameLemmas.{some_texts}
use Rattle.wc_calls.proofs.MissingLemmas.{named_position}
use Rattle.wc_calls.proofs.TrimmingLemmas.{for_names, put_of, statuses_of, too_long_of, fault_of}
use Rattle.wc_calls.proofs.trimming.trim_for_names.Goals as goal

pub run_explained-trimmed-requires-clause-some : goal.run_explained-trimmed-requires-clause-some
run_explained-trimmed-requires-clause-some c = some_texts c.in-Ok.names.keys c.args.passed.required.now c.in-Ok.ensures c.requires.some

pub returns-clause-done : goal.returns-clause-done
returns-clause-done c =
    let s = settings c.args.passed.realloc c.args.passed.page_size_log2 in
    let p = c.put_trimmed in
    let run = for_names (λ w v. IsTrimmed s w v.items) c.args.passed.wasm.now (names_of c.in-Ok.names.keys) (texts c.args.passed.required.now) c.run_explained-trimmed.result c.in-Ok.ensures c.run_explained-trimmed.ensures.trimmed in
    put_of (λ v. v.items) (IsTrimmed s (trim_input_for_names c.args.passed.wasm.now (texts c.args.passed.required.now))) c.run_explained-trimmed.result p.result.status p.result.length c.args.out.now p.new.out run p.ensures.length p.ensures.done p.ensures.refused

pub returns-clause-too_small : goal.returns-clause-too_small
returns-clause-too_small c =
    let s = settings c.args.passed.realloc c.args.passed.page_size_log2 in
    let p = c.put_trimmed in
    let run = for_names (λ w v. IsTrimmed s w v.items) c.args.passed.wasm.now (names_of c.in-Ok.names.keys) (texts c.args.passed.required.now) c.run_explained-trimmed.result c.in-Ok.ensures c.run_explained-trimmed.ensures.trimmed in
    too_long_of (λ v. v.items) (IsTrimmed s (trim_input_for_names c.args.passed.wasm.now (texts c.args.passed.required.now))) c.run_explained-trimmed.result p.result.status p.result.length c.args.out.now run p.ensures.length p.ensures.too_small p.ensures.refused

pub returns-clause-fault : goal.returns-clause-fault
returns-clause-fault c =
    let p = c.put_trimmed in
    let s = settings c.args.passed.realloc c.args.passed.page_size_log2 in
    let wasm = c.args.passed.wasm.now in
    let names = texts c.args.passed.required.now in
    fault_of (IsTrimFault s) wasm (names_of c.in-Ok.names.keys) names c.run_explained-trimmed.result p.result c.args.out.now p.new.out (named_position s wasm names)
    c.in-Ok.ensures c.run_explained-trimmed.ensures.fault c.run_explained-trimmed.ensures.place p.ensures.ok p.ensures.memory p.ensures.fault

pub returns-clause-statuses : goal.returns-clause-statuses
returns-clause-statuses c = statuses_of c.run_explained-trimmed.result c.put_trimmed.result.status c.put_trimmed.ensures.ok c.put_trimmed.ensures.fault_or_memory
