use Rattle.std.proofs.Common.{ap}
use Rattle.wc_resolve.specs.Views.{plain_key}
use Rattle.wc_resolve.specs.declared.worlds.WorldKey.TheVariants.{Name}
use Rattle.wc_names.proofs.ExportIndexLemmas.{plain_key_answer}
use Rattle.wc_names.proofs.export_index.plain_key_in.Goals as goal

pub returns : goal.returns
returns c =
    plain_key_answer c.args.keys.now.keys (Name c.in_ok-from_str.field-0) c.args.name.now c.get.result
    (ap plain_key c.in_ok-from_str.ensures.ok) c.get.ensures.key
