use Rattle.std.proofs.Common.{map, sym}
use Rattle.wc_resolve.specs.Views.{key_view, world_entry}
use Rattle.wc_names.proofs.ExportIndexLemmas.{key_in_range}
use Rattle.wc_names.proofs.export_index.text_under_key.Goals as goal

pub text_of-requires : goal.text_of-requires
text_of-requires c =
    key_in_range c.args.resolve.now (map world_entry c.args.exports.now.entries) (key_view c.args.key.now) c.in-Some.id.0 c.requires (sym c.in-Some.ensures)
