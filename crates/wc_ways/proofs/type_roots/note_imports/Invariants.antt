use Rattle.std.proofs.Common.{option_map}
use Rattle.wc_adapters.specs.Entries.{entries_of}
use Rattle.wc_validate.specs.Imports.Iter.{imports_left}
use Rattle.wc_validate.specs.Imports.Map.{imports_in}
use Rattle.wc_why.specs.Texts.{text_of}
use Rattle.wc_ways.specs.Private.Needs.{noted_in}
use Rattle.wc_ways.specs.TypeRoots.{import_needs}
use Rattle.wc_ways.proofs.NeedLemmas.{NeedsWalk}
use Rattle.wc_ways.proofs.type_roots.note_imports.Given as goal

abbrev pub invariant-loop-module : goal.invariant-loop-module
invariant-loop-module l =
    NeedsWalk l.lists.resolve.now (import_needs l.lists.resolve.now (entries_of l.lists.imports.now) (option_map text_of l.adapter)) (imports_in l.imports)
    (imports_left l.module-iterator) (noted_in l.fn.found) (noted_in l.found)
