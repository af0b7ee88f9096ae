use Rattle.std.proofs.Common.{◌≡◌, map, take}
use Rattle.wc_why.specs.Texts.{text_of}
use Rattle.wc_import_paths.specs.Patterns.{pattern_of, pattern_view}
use Rattle.wc_import_paths.proofs.patterns.patterns_of.Given as goal

abbrev pub invariant-loop-text : goal.invariant-loop-text
invariant-loop-text l = map pattern_view l.found.items ≡ map pattern_of (map text_of (take l.text-index l.texts))
