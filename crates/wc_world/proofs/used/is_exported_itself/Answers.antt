use Rattle.std.proofs.Common.{◌∙◌, ap, sym, is_some}
use Rattle.wc_resolve.specs.declared.worlds.WorldKey.TheVariants.{Interface}
use Rattle.wc_resolve.specs.Views.{item_view}
use Rattle.wc_names.proofs.KeyLemmas.{item_viewed}
use Rattle.wc_validate.proofs.ArgumentLemmas.{is_some_map}
use Rattle.wc_world.proofs.used.is_exported_itself.Goals as goal

pub returns : goal.returns
returns c = c.contains_key.ensures ∙ (sym (is_some_map item_view _) ∙ ap is_some (item_viewed (Interface c.args.id) c.args.exports.now.entries))
