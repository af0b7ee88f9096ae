use Rattle.std.proofs.Common.{◌≡◌, string_bytes, take}
use Rattle.std.specs.List.{flat_map}
use Rattle.wc_texts.specs.Escape.{quoted_char}
use Rattle.wc_texts.proofs.escape.quoted_characters.Given as goal

abbrev pub invariant-loop-c : goal.invariant-loop-c
invariant-loop-c l = string_bytes l.out ≡ flat_map quoted_char (take l.c-index l.characters)
