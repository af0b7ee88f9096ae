use Rattle.std.proofs.Common.{◌∙◌, ap, map}
use Rattle.wc_maps.specs.Texts.{text_of, text_pair}
use Rattle.wc_json.specs.Messages.{adapter_message_view, exports_view}
use Rattle.wc_calls.proofs.AskedKeyLemmas.{asked_for}
use Rattle.wc_calls.proofs.asked_keys.asked_of.Goals as goal

pub returns-clause-fault : goal.returns-clause-fault
returns-clause-fault c =
    asked_for (exports_view c.args.world.exports.now) (map adapter_message_view c.args.adapters.now) c.args.world.resolve.now
    c.args.world.world.0 c.asked_by.result (map text_of c.deref.result.now) (map text_pair c.deref-2.result.now)
    (ap (map text_of) c.deref.ensures.value ∙ c.in_ok-texts.ensures) (ap (map text_pair) c.deref-2.ensures.value ∙ c.in_ok-adapter_texts.ensures)
    c.asked_by.ensures.fault
