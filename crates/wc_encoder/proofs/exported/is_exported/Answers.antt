use Rattle.wc_resolve.specs.Views.{key_view}
use Rattle.wc_encoder.proofs.LookupLemmas.{exported_law}
use Rattle.wc_resolve.proofs.KeyLemmas.{keys_law}
use Rattle.wc_encoder.proofs.exported.is_exported.Goals as goal

pub returns : goal.returns
returns c = exported_law _ (key_view c.args.key.now) (λ y. keys_law c.args.key.now y) c.args.exports.now.entries c.contains_key.result c.contains_key.ensures
