use Rattle.std.proofs.Common.{◌≤◌, length}
use Rattle.wc_resolve.proofs.shortcuts.longest_part.Given as goal

abbrev pub invariant-loop-index : goal.invariant-loop-index
invariant-loop-index l = l.longest ≤ length l.ends
