use Rattle.std.proofs.Common.{ap, map, refl, string_bytes}
use Rattle.wc_read.specs.Names.{name_entries}
use Rattle.wc_summary.specs.Summary.{entry_view}
use Rattle.wc_summary.specs.SummaryLines.{entry_line}
use Rattle.wc_summary.proofs.ListLemmas.{made_all, made_more}
use Rattle.wc_summary.proofs.summary_lines.lines_of.Goals as goal

pub loop-interface-preserved : goal.loop-interface-preserved
loop-interface-preserved c =
    made_more (entry_line (name_entries c.args.names.now)) _ (string_bytes c.loop-interface.text) _ _ (map entry_view c.loop-interface.interface-iterator)
    (map entry_view c.next.new.self) (entry_view (c.in-Some.interface.now, c.in-Some.entry.now)) (ap (map entry_view) c.in-Some.ensures.steps)
    c.in_ok-push_line.ensures refl c.loop-interface.invariant

pub returns : goal.returns
returns c =
    made_all (entry_line (name_entries c.args.names.now)) _ (string_bytes c.loop-interface.text) (map entry_view c.loop-interface.interface-iterator)
    (ap (map entry_view) c.in-None.ensures.steps.0) c.loop-interface.invariant
