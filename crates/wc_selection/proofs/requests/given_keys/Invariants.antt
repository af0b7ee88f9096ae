use Rattle.std.proofs.Common.{◌≡◌, ◌++◌, map, take}
use Rattle.wc_maps.specs.Texts.{second_parts, text_of, text_pair}
use Rattle.wc_selection.proofs.requests.given_keys.Given as goal

abbrev pub invariant-loop-name : goal.invariant-loop-name
invariant-loop-name l =
    map text_of l.keys.items ≡ map text_of l.request.exports.now ++ second_parts (map text_pair (take l._name-index l.request.adapter_exports.now))
