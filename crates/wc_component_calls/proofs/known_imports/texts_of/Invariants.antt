use Rattle.std.proofs.Common.{◌≡◌, map, string_bytes, take}
use Rattle.wc_selection.specs.Keys.{named_key, texts_of}
use Rattle.wc_component_calls.proofs.known_imports.texts_of.Given as goal

abbrev pub invariant-loop-key : goal.invariant-loop-key
invariant-loop-key l = map string_bytes l.texts.items ≡ texts_of (map named_key (take l.key-index l.keys))
