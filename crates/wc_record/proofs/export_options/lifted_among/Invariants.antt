use Rattle.std.proofs.Common.{All, map}
use Rattle.wc_resolve.specs.Views.{item_view, world_entry}
use Rattle.wc_record.specs.ExportOptions.{lifted_exports}
use Rattle.wc_record.specs.Private.ExportOptions.{IsLiftable, lifted_view}
use Rattle.wc_record.proofs.UsedLemmas.{IsGathered}
use Rattle.wc_record.proofs.export_options.lifted_among.Given as goal

abbrev pub invariant-loop-key : goal.invariant-loop-key
invariant-loop-key l =
    All (λ e. IsLiftable l.resolve (item_view e.1)) l._key-iterator
    × IsGathered (λ es. lifted_exports l.resolve (map world_entry es)) l.exports.entries l._key-iterator (map lifted_view l.list.items)
