use Rattle.std.proofs.Common.{map}
use Rattle.wc_maps.specs.Texts.{text_of}
use Rattle.wc_validate.specs.Imports.Map.{required_entry}
use Rattle.wc_ways.proofs.WantedLemmas.{WantedLeft}
use Rattle.wc_ways.proofs.summary_adapters.wanted_among.Given as goal

abbrev pub invariant-loop-name : goal.invariant-loop-name
invariant-loop-name l =
    WantedLeft (map text_of l.always.keys) (map required_entry l.imported.entries) (map required_entry l.name-iterator) l.wanted.entries
