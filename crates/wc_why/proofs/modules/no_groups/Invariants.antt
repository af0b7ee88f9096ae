use Rattle.std.proofs.Common.{◌≡◌, [], replicate}
use Rattle.wc_why.specs.Private.Positions.{groups_view}
use Rattle.wc_why.proofs.modules.no_groups.Given as goal

abbrev pub invariant-loop : goal.invariant-loop
invariant-loop l = groups_view l.groups.items ≡ replicate l.counter []
