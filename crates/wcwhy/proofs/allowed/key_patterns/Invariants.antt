use Rattle.std.proofs.Common.{◌≡◌, map, take}
use Rattle.wc_maps.specs.Texts.{text_of}
use Rattle.wc_import_paths.specs.Patterns.{pattern_view}
use Rattle.wcwhy.specs.Private.Allowed.{key_pattern}
use Rattle.wcwhy.proofs.allowed.key_patterns.Given as goal

abbrev pub invariant-loop-key : goal.invariant-loop-key
invariant-loop-key l = map pattern_view l.patterns.items ≡ map key_pattern (map text_of (take l.key-index l.keys))
