use Rattle.std.proofs.Common.{◌≡◌, map, take, string_bytes}
use Rattle.wc_maps.specs.Texts.{text_of}
use Rattle.wc_component_file.specs.Listing.{words_text}
use Rattle.wc_component_file.proofs.listing.words_text.Given as goal

abbrev pub invariant-loop-index : goal.invariant-loop-index
invariant-loop-index l = string_bytes l.text ≡ words_text (map text_of (take l.index l.names))
