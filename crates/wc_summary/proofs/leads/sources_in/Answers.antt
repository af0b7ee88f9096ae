use Rattle.std.proofs.Common.{◌<◌, ◌∙◌, length, ap, arith, string_bytes}
use Rattle.wc_paths.specs.Counts.{counts_value}
use Rattle.wc_summary.proofs.OwnerLemmas.{sources_next}
use Rattle.wc_summary.proofs.leads.sources_in.Goals as goal
use Rattle.wc_summary.specs.Leads.{source_by}

pub loop-name-preserved : goal.loop-name-preserved
loop-name-preserved c exports h =
    let within : c.loop-name.name-index < length c.args.names.now = omega arith in
    sources_next (source_by (counts_value c.args.counts.now) exports) c.args.names.now c.loop-name.name-index c.name-item.result c.loop-name.sources.items c.push.new.self.items
    c.source_of.result within (c.loop-name.invariant exports h)
    (c.source_of.ensures exports h ∙ ap (source_by (counts_value c.args.counts.now) exports) (c.deref.ensures ∙ ap string_bytes c.name-item.is)) c.in_ok-push.ensures.items
