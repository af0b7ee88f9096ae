use Rattle.std.proofs.Common.{All, map}
use Rattle.wc_resolve.specs.Views.{function_entry, function_view}
use Rattle.wc_resolve.specs.WellFormed.{IsUsable}
use Rattle.wc_record.specs.ExportOptions.{lifted_functions}
use Rattle.wc_record.specs.Private.ExportOptions.{lifted_view}
use Rattle.wc_record.proofs.ExportOptionLemmas.{IsAdded}
use Rattle.wc_record.proofs.export_options.push_functions.Given as goal

abbrev pub invariant-loop-name : goal.invariant-loop-name
invariant-loop-name l =
    All (λ e. IsUsable l.resolve (function_view e.1)) l._name-iterator
    × IsAdded (λ es. lifted_functions l.resolve l.fn.id.0 (map function_entry es)) l.functions.entries l._name-iterator
    (map lifted_view l.fn.list.items) (map lifted_view l.list.items)
