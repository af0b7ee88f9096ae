use Rattle.wc_gc.specs.LiveItems.{names_of}
use Rattle.wc_summary.specs.CoreModules.{core_value}
use Rattle.wc_summary.specs.Entries.{entries_view}
use Rattle.wc_summary.specs.Private.CoreModules.{core_part_at}
use Rattle.wc_summary.proofs.UseLemmas.{AreSoFar}
use Rattle.wc_summary.proofs.core_modules.push_core_uses.Given as goal

abbrev pub invariant-loop-position : goal.invariant-loop-position
invariant-loop-position l =
    AreSoFar (core_part_at (core_value l.core) l.uses) (names_of l.interfaces) l.position (entries_view l.initial.entries.entries) (entries_view l.entries.entries)
