use Rattle.std.proofs.Common.{◌≡◌, map, take}
use Rattle.wc_gc.specs.LiveItems.{names_of}
use Rattle.wc_texts.specs.Names.{first_occurrences}
use Rattle.wc_why.specs.Texts.{text_of}
use Rattle.wc_module_ways.proofs.required.name_set.Given as goal

abbrev pub invariant-loop-name : goal.invariant-loop-name
invariant-loop-name l = names_of l.set.keys ≡ first_occurrences (map text_of (take l.name-index l.names))
