use Rattle.std.proofs.Common.{map, subst, sym, ◌∙◌}
use Rattle.std.proofs.lemmas.Result.{err_from_is_err_and}
use Rattle.wc_adapters.specs.Adapters.{adapter_entry}
use Rattle.wc_encoder.specs.EncoderParts.{given_in}
use Rattle.wc_resolve.specs.Views.{key_view}
use Rattle.wc_json.specs.Messages.{message_view}
use Rattle.wc_calls.specs.Encoders.{IsPartsOf}
use Rattle.wc_calls.proofs.CauseLemmas.{encoder_refused, modules_refused, parts_of, parts_refused}
use Rattle.wc_calls.proofs.encoders.encoder_for.Goals as goal

pub returns-in_err-resolve-clause-fault : goal.returns-in_err-resolve-clause-fault
returns-in_err-resolve-clause-fault c = λ modules chosen.
    let p = err_from_is_err_and c.from_residual.result c.from_residual.ensures.1 in
    rw (p.1, p.2) (parts_refused (message_view c.args.message) modules c.args.bytes.main.now c.args.bytes.others.now c.args.world.0
    c.in_err-resolve.field-0.0 chosen c.in_err-resolve.ensures.fault)

pub returns-in_err-made-clause-fault : goal.returns-in_err-made-clause-fault
returns-in_err-made-clause-fault c = λ modules chosen.
    let p = err_from_is_err_and c.from_residual-in_err-made.result c.from_residual-in_err-made.ensures.1 in
    rw (p.1, p.2) (modules_refused (message_view c.args.message) modules c.args.bytes.main.now c.args.bytes.others.now c.args.world.0 chosen
    c.in_ok-resolve.resolve c.in_ok-resolve.ensures.ok c.in_ok-resolve.ensures.formed c.in_err-made.field-0.0 c.in_err-made.ensures.fault)

pub returns-clause-fault : goal.returns-clause-fault
returns-clause-fault c = λ modules chosen.
    encoder_refused (message_view c.args.message) modules c.args.bytes.main.now c.args.bytes.others.now c.args.world.0 chosen
    c.in_ok-resolve.resolve c.in_ok-resolve.ensures.ok c.in_ok-resolve.ensures.formed _ c.in-Err.fault c.without_place.result
    (parts_of (message_view c.args.message) modules c.args.bytes.main.now c.args.bytes.others.now c.args.world.0 c.in_ok-made.made.main.wasm.items
    (given_in c.in_ok-made.made.main.given c.in_ok-made.made.main.wasm.items) c.in_ok-made.made.main.import_map
    c.in_ok-resolve.resolve (map key_view c.in_ok-made.made.exporters.main.keys) (map adapter_entry c.in_ok-made.made.exporters.adapters.entries)
    c.unwrap_or-rejects.result c.unwrap_or-grows.result _ chosen c.in_ok-made.ensures.given c.in_ok-made.ensures.main c.in_ok-resolve.ensures.ok c.in_ok-made.ensures.exporters
    c.unwrap_or-rejects.ensures c.unwrap_or-grows.ensures c.in_ok-made.ensures.hook)
    c.in-Err.ensures.fault (c.without_place.ensures.fault ∙ c.from.ensures, c.without_place.ensures.place)

pub returns-in-Ok-clause-parts : goal.returns-in-Ok-clause-parts
returns-in-Ok-clause-parts c = λ modules chosen.
    subst (IsPartsOf (message_view c.args.message) modules) (sym c.in-Ok.ensures.ok)
    (parts_of (message_view c.args.message) modules c.args.bytes.main.now c.args.bytes.others.now c.args.world.0 c.in_ok-made.made.main.wasm.items
    (given_in c.in_ok-made.made.main.given c.in_ok-made.made.main.wasm.items) c.in_ok-made.made.main.import_map
    c.in_ok-resolve.resolve (map key_view c.in_ok-made.made.exporters.main.keys) (map adapter_entry c.in_ok-made.made.exporters.adapters.entries)
    c.unwrap_or-rejects.result c.unwrap_or-grows.result _ chosen c.in_ok-made.ensures.given c.in_ok-made.ensures.main c.in_ok-resolve.ensures.ok c.in_ok-made.ensures.exporters
    c.unwrap_or-rejects.ensures c.unwrap_or-grows.ensures c.in_ok-made.ensures.hook)
