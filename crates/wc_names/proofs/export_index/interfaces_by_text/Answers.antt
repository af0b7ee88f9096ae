use Rattle.std.proofs.Common.{map}
use Rattle.wc_resolve.specs.Views.{key_view, world_entry}
use Rattle.wc_names.specs.ExportIndex.{listed}
use Rattle.wc_names.proofs.ExportIndexLemmas.{all_listed}
use Rattle.wc_names.proofs.export_index.interfaces_by_text.Goals as goal

pub returns : goal.returns
returns c =
    all_listed c.args.syntax c.args.resolve.now (map world_entry c.args.exports.now.entries) (map key_view c.args.keys.now.keys) c.loop-key.key-iterator
    (listed c.loop-key.interfaces.entries)
    c.loop-key.invariant c.in-None.ensures.steps.0
