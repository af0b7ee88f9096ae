use Rattle.std.proofs.Common.{◌≡◌, map, take}
use Rattle.wc_maps.specs.Texts.{text_of}
use Rattle.wc_json.specs.Messages.{key_message_view}
use Rattle.wc_calls.specs.AskedKeys.{key_texts}
use Rattle.wc_calls.proofs.asked_keys.key_texts.Given as goal

abbrev pub invariant-loop-key : goal.invariant-loop-key
invariant-loop-key l =
    map text_of l.texts.items ≡ key_texts (map key_message_view (take l.key-index l.keys))
