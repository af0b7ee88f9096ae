use Rattle.std.proofs.Common.{◌≡◌, map, string_bytes, take}
use Rattle.wc_maps.specs.Texts.{text_of}
use Rattle.wc_options.specs.Listing.{listed_names}
use Rattle.wc_options.proofs.listing.listed_names.Given as goal

abbrev pub invariant-loop-name : goal.invariant-loop-name
invariant-loop-name l = string_bytes l.text ≡ listed_names (map text_of (take l.name-index l.names))
