use Rattle.std.proofs.Common.{◌≡◌, flat_map, map, take}
use Rattle.wc_maps.specs.Texts.{text_pair}
use Rattle.wc_json.specs.Messages.{adapter_message_view}
use Rattle.wc_calls.specs.AskedKeys.{adapter_texts}
use Rattle.wc_calls.proofs.asked_keys.texts_of_adapters.Given as goal

abbrev pub invariant-loop-adapter : goal.invariant-loop-adapter
invariant-loop-adapter l =
    map text_pair l.texts.items ≡ flat_map adapter_texts (map adapter_message_view (take l.adapter-index l.adapters))
