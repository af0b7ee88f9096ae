use Rattle.std.proofs.Common.{◌≡◌, map, take}
use Rattle.wc_selection.proofs.key_names.indexed_in.Given as goal
use Rattle.wc_selection.specs.KeyNames.{keys_by_index}
use Rattle.wc_selection.specs.Keys.{named_key}
use Rattle.wc_maps.specs.Texts.{text_of}

abbrev pub invariant-loop-key : goal.invariant-loop-key
invariant-loop-key l = map named_key l.named.items ≡ keys_by_index (map text_of l.given.keys) (map named_key (take l.key-index l.keys))
