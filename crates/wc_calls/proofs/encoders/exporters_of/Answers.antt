use Rattle.std.proofs.Common.{ap, map}
use Rattle.std.proofs.lemmas.Result.{err_from_is_err_and}
use Rattle.wc_selection.specs.Keys.{named_key}
use Rattle.wc_adapters.specs.Adapters.{adapter_entry}
use Rattle.wc_json.specs.Messages.{adapter_message_view, exports_view}
use Rattle.wc_calls.proofs.AskedKeyLemmas.{adapters_failed, exporters_failed, exporters_made}
use Rattle.wc_calls.proofs.encoders.exporters_of.Goals as goal

pub returns-in_err-asked-clause-fault : goal.returns-in_err-asked-clause-fault
returns-in_err-asked-clause-fault c =
    let p = err_from_is_err_and c.from_residual.result c.from_residual.ensures.1 in
    rw (p.1, p.2) (exporters_failed (map adapter_message_view c.deref.result.now) (map adapter_message_view c.args.adapters.items)
    c.args.world.resolve.now c.args.world.world.0 (exports_view c.args.world.exports.now) c.args.bytes.now c.in_err-asked.field-0.0
    (ap (map adapter_message_view) c.deref.ensures.value) c.in_err-asked.ensures.fault)

pub returns-in_err-adapters-clause-fault : goal.returns-in_err-adapters-clause-fault
returns-in_err-adapters-clause-fault c =
    let p = err_from_is_err_and c.from_residual-in_err-adapters.result c.from_residual-in_err-adapters.ensures.1 in
    rw (p.1, p.2) (adapters_failed (map adapter_message_view c.deref.result.now) (map adapter_message_view c.args.adapters.items)
    c.args.world.resolve.now c.args.world.world.0 (exports_view c.args.world.exports.now) c.args.bytes.now c.in_ok-asked.asked c.in_err-adapters.field-0.0
    (ap (map adapter_message_view) c.deref.ensures.value) c.in_ok-asked.ensures.asked c.in_err-adapters.ensures.fault)

pub returns-clause-exporters : goal.returns-clause-exporters
returns-clause-exporters c =
    exporters_made (map named_key c.deref-2.result.now) (map adapter_message_view c.deref.result.now) (map adapter_message_view c.args.adapters.items)
    c.args.world.resolve.now c.args.world.world.0 (exports_view c.args.world.exports.now) c.args.bytes.now c.in_ok-asked.asked
    (map adapter_entry c.in_ok-adapters.adapters.entries) (ap (map adapter_message_view) c.deref.ensures.value)
    (ap (map named_key) c.deref-2.ensures.value) c.in_ok-asked.ensures.asked c.in_ok-adapters.ensures.adapters
