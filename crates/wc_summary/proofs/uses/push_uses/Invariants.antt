use Rattle.wc_gc.specs.LiveItems.{names_of}
use Rattle.wc_summary.specs.Parts.{is_wanted_in}
use Rattle.wc_summary.specs.Entries.{entries_view}
use Rattle.wc_summary.specs.Private.Uses.{part_at}
use Rattle.wc_summary.proofs.UseLemmas.{AreSoFar}
use Rattle.wc_summary.proofs.uses.push_uses.Given as goal

abbrev pub invariant-loop-position : goal.invariant-loop-position
invariant-loop-position g l =
    AreSoFar (part_at l.name (names_of l.required.names.now.keys) (is_wanted_in l.required) l.uses) (names_of l.interfaces) l.position
    (entries_view l.initial.entries.entries) (entries_view l.entries.entries)
