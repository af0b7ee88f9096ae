use Rattle.std.proofs.Common.{◌≡◌, map, take}
use Rattle.wc_selection.specs.Keys.{named_key, texts_of}
use Rattle.wc_maps.specs.Texts.{text_of}
use Rattle.wcplan_inputs.proofs.listing.key_names.Given as goal

abbrev pub invariant-loop-key : goal.invariant-loop-key
invariant-loop-key l = map text_of l.names.items ≡ texts_of (map named_key (take l.key-index l.keys))
