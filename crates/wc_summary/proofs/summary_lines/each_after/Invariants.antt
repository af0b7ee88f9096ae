use Rattle.std.proofs.Common.{◌≡◌, ℕ, List, ◌++◌, map, string_bytes, take}
use Rattle.std.specs.List.{flat_map}
use Rattle.wc_summary.proofs.summary_lines.each_after.Given as goal

abbrev pub invariant-loop-text : goal.invariant-loop-text
invariant-loop-text l = string_bytes l.all ≡ flat_map (λ (u : List ℕ). l.before ++ u) (map string_bytes (take l.text-index l.texts))
