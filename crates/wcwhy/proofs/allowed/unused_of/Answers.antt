use Rattle.std.proofs.Common.{[], map, not}
use Rattle.wc_import_paths.proofs.PickedLemmas.{kept_more}
use Rattle.wcwhy.specs.Allowed.{EntryView, entry_view, is_used, module_names}
use Rattle.wcwhy.proofs.AllowedLemmas.{kept_viewed}
use Rattle.wcwhy.proofs.allowed.unused_of.Goals as goal

pub loop-entry-preserved : goal.loop-entry-preserved
loop-entry-preserved c =
    let old = c.loop-entry.found.items in
    let new = c.push_if.new.items.items in
    let kept = kept_viewed entry_view c.is_used.result _ old new _ c.is_used.ensures c.in_ok-push_if.ensures in
    kept_more entry_view (λ (e : EntryView). not (is_used (module_names c.args.offered.now) e)) c.args.entries.now c.loop-entry.entry-index _ [] (map entry_view old)
    (map entry_view new) c.loop-entry-test.true c.loop-entry.invariant kept
