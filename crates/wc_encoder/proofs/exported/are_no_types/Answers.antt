use Rattle.std.proofs.Common.{rules}
use Rattle.wc_resolve.specs.Views.{KeyView, ItemView, world_entry}
use Rattle.wc_resolve.proofs.ViewedLemmas.{viewed}
use Rattle.wc_encoder.specs.Exported.{IsNoType}
use Rattle.wc_encoder.proofs.exported.are_no_types.Goals as goal

pub returns : goal.returns
returns c = viewed world_entry (λ (x : KeyView × ItemView). IsNoType x.1) c.args.exports.now.entries c.all.result (search rules)
