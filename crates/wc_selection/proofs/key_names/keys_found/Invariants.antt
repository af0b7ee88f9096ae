use Rattle.std.proofs.Common.{◌≡◌, map, take}
use Rattle.wc_selection.proofs.key_names.keys_found.Given as goal
use Rattle.wc_selection.specs.Keys.{named_key}
use Rattle.wc_selection.specs.KeyTexts.{keys_found}
use Rattle.wc_maps.specs.Texts.{text_of}

abbrev pub invariant-loop-key : goal.invariant-loop-key
invariant-loop-key l =
    map named_key l.named.items ≡ keys_found (map text_of l.given.keys) (map text_of l.own.keys) l.short.entries (map named_key (take l.key-index l.keys))
