use Rattle.std.proofs.Common.{ap, codes, map, rules}
use Rattle.wc_read.specs.Names.{name_entries}
use Rattle.wc_summary.specs.Summary.{entry_view}
use Rattle.wc_summary.specs.SummaryJson.{entry_json}
use Rattle.wc_why_text.proofs.TokenLemmas.{both, wrote, wrote_last}
use Rattle.wc_summary.proofs.SummaryTextLemmas.{left_done, left_next, left_start}
use Rattle.wc_summary.proofs.summary_json.put_list.Goals as goal

pub loop-interface-init : goal.loop-interface-init
loop-interface-init c =
    left_start (codes "imports") (entry_json (name_entries c.args.names.now)) (map entry_view c.args.entries.now.entries) _ (search rules)
    (both (wrote c.in_ok-key.ensures) (wrote c.in_ok-begin_array.ensures))

pub loop-interface-preserved : goal.loop-interface-preserved
loop-interface-preserved c =
    left_next (codes "imports") (entry_json (name_entries c.args.names.now)) (map entry_view c.args.entries.now.entries)
    (map entry_view c.loop-interface.interface-iterator) (map entry_view c.next.new.self) (entry_view (c.in-Some.interface.now, c.in-Some.entry.now))
    (ap (map entry_view) c.in-Some.ensures.steps) c.loop-interface.invariant c.in_ok-put_entry.ensures

pub returns : goal.returns
returns c =
    left_done (codes "imports") (entry_json (name_entries c.args.names.now)) (map entry_view c.args.entries.now.entries)
    (map entry_view c.loop-interface.interface-iterator) _ c.end_array.result (ap (map entry_view) c.in-None.ensures.steps.0) c.loop-interface.invariant
    (wrote_last _ _ _ _ c.end_array.ensures)
