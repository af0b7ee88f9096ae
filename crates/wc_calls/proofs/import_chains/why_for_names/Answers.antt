use Rattle.wc_gc.specs.LiveItems.{IsFault, names_of, trim_input_for_names}
use Rattle.wc_calls.specs.ExportNames.{texts}
use Rattle.wc_calls.specs.ImportChains.{IsWhyText}
use Rattle.wc_calls.proofs.MissingLemmas.{live_position}
use Rattle.wc_calls.proofs.TrimmingLemmas.{fault_of, for_names, put_of, statuses_of, too_long_of}
use Rattle.wc_calls.proofs.import_chains.why_for_names.Goals as goal

pub returns-clause-done : goal.returns-clause-done
returns-clause-done c =
    let p = c.put_text_or_fault in
    let wasm = c.args.wasm.now in
    let names = texts c.args.required.now in
    let found = for_names (λ w v. IsWhyText w v.items) wasm (names_of c.in-Ok.names.keys) names c.why_text-text.result c.in-Ok.ensures c.why_text-text.ensures.text in
    put_of (λ v. v.items) (IsWhyText (trim_input_for_names wasm names)) c.why_text-text.result p.result.status p.result.length c.args.out.now p.new.out found
    p.ensures.length p.ensures.done p.ensures.refused

pub returns-clause-too_small : goal.returns-clause-too_small
returns-clause-too_small c =
    let p = c.put_text_or_fault in
    let wasm = c.args.wasm.now in
    let names = texts c.args.required.now in
    let found = for_names (λ w v. IsWhyText w v.items) wasm (names_of c.in-Ok.names.keys) names c.why_text-text.result c.in-Ok.ensures c.why_text-text.ensures.text in
    too_long_of (λ v. v.items) (IsWhyText (trim_input_for_names wasm names)) c.why_text-text.result p.result.status p.result.length c.args.out.now found
    p.ensures.length p.ensures.too_small p.ensures.refused

pub returns-clause-fault : goal.returns-clause-fault
returns-clause-fault c =
    let p = c.put_text_or_fault in
    let wasm = c.args.wasm.now in
    let names = texts c.args.required.now in
    fault_of IsFault wasm (names_of c.in-Ok.names.keys) names c.why_text-text.result p.result c.args.out.now p.new.out (live_position wasm names)
    c.in-Ok.ensures c.why_text-text.ensures.fault c.why_text-text.ensures.place p.ensures.ok p.ensures.memory p.ensures.fault

pub returns-clause-statuses : goal.returns-clause-statuses
returns-clause-statuses c = statuses_of c.why_text-text.result c.put_text_or_fault.result.status c.put_text_or_fault.ensures.ok c.put_text_or_fault.ensures.fault_or_memory
