use Rattle.std.proofs.Common.{◌≡◌, map, string_bytes, take}
use Rattle.wc_maps.specs.Texts.{text_of}
use Rattle.wcwhy.specs.Allowed.{listed_words}
use Rattle.wcwhy.proofs.allowed.listed_words.Given as goal

abbrev pub invariant-loop-name : goal.invariant-loop-name
invariant-loop-name l = string_bytes l.text ≡ listed_words (map text_of (take l.name-index l.names))
