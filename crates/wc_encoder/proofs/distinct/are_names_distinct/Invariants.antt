use Rattle.std.proofs.Common.{map}
use Rattle.wc_resolve.specs.Views.{world_entry}
use Rattle.wc_encoder.specs.Distinct.{import_names}
use Rattle.wc_maps.proofs.SeenLemmas.{IsSeen, name_text}
use Rattle.wc_encoder.proofs.distinct.are_names_distinct.Given as goal

abbrev pub invariant-loop-key : goal.invariant-loop-key
invariant-loop-key l = IsSeen name_text (import_names l.resolve (map world_entry l.imports.entries)) (import_names l.resolve (map world_entry l.key-iterator)) l.seen.keys
