use Rattle.std.proofs.Common.{◌≡◌, ◌-◌, ◌≤◌, ◌++◌}
use Rattle.std.specs.List.{range_with_len}
use Rattle.wc_gc.proofs.range_set.append_numbers.Given as goal

abbrev pub invariant-loop-x : goal.invariant-loop-x
invariant-loop-x l = record {
  items : l.numbers.items ≡ l.fn.numbers.items ++ range_with_len l.first (l.x - l.first);
  none : l.end ≤ l.first → l.x ≡ l.first;
}
