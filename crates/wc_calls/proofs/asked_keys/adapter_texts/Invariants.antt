use Rattle.std.proofs.Common.{◌≡◌, map, string_bytes, take}
use Rattle.wc_maps.specs.Texts.{text_pair}
use Rattle.wc_json.specs.Messages.{KeyMessageView, key_message_view}
use Rattle.wc_calls.proofs.asked_keys.adapter_texts.Given as goal

abbrev pub invariant-loop-key : goal.invariant-loop-key
invariant-loop-key l =
    map text_pair l.texts.items ≡ map (λ (k : KeyMessageView). (string_bytes l.adapter.name, k.text))
    (map key_message_view (take l.key-index l.adapter.exports.items))
