use Rattle.std.proofs.Common.{◌∙◌, true, refl, sym}
use Rattle.wc_read.specs.Exports.{export_value}
use Rattle.wc_graph.proofs.ChainTreeLemmas.{none_of}
use Rattle.wc_summary.proofs.OwnerLemmas.{adds_new}
use Rattle.wc_summary.proofs.leads.note_named.Goals as goal

pub returns : goal.returns
returns c =
    adds_new (export_value c.args.export.now) c.args.export.now.name c.export_item.result c.args.named.now.entries c.insert.new.self.entries refl c.export_item.ensures
    (none_of _ true (sym c.contains_key.ensures ∙ c.if-contains_key.false) refl) c.in_ok-insert.ensures.updates.0
