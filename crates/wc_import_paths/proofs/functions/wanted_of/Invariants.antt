use Rattle.std.proofs.Common.{map, take}
use Rattle.wc_why.specs.Texts.{text_of}
use Rattle.wc_import_paths.specs.Private.Functions.{AreWanted}
use Rattle.wc_import_paths.proofs.functions.wanted_of.Given as goal

abbrev pub invariant-loop-text : goal.invariant-loop-text
invariant-loop-text l = AreWanted (map text_of (take l.text-index l.texts)) l.wanted
