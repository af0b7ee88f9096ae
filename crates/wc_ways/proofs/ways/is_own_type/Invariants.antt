use Rattle.std.proofs.Common.{◌≡◌, map}
use Rattle.std.specs.List.{list_any}
use Rattle.wc_adapters.specs.Entries.{entries_of}
use Rattle.wc_resolve.specs.Views.{world_entry}
use Rattle.wc_ways.specs.Ways.{is_asked_type}
use Rattle.wc_ways.proofs.ways.is_own_type.Given as goal

abbrev pub invariant-loop-name : goal.invariant-loop-name
invariant-loop-name l = list_any (is_asked_type l.key) (entries_of l.imports) ≡ list_any (is_asked_type l.key) (map world_entry l.name-iterator)
