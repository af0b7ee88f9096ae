use Rattle.std.proofs.Common.{◌≡◌, ◌+◌, ◌++◌, drop, map}
use Rattle.wc_maps.specs.Texts.{text_of}
use Rattle.wcwhy.specs.Allowed.{entries_from, entry_view}
use Rattle.wcwhy.proofs.allowed.entries_on.Given as goal

abbrev pub invariant-loop-line : goal.invariant-loop-line
invariant-loop-line l =
    (l.number ≡ l.line-index)
    × (map entry_view l.entries.items ++ entries_from (l.line-index + 1) (map text_of (drop l.line-index l.lines)) ≡ entries_from 1 (map text_of l.lines))
