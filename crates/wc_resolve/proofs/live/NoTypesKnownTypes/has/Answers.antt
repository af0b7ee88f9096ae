use Rattle.wc_resolve.proofs.BesideLemmas.{nothing_has}
use Rattle.wc_resolve.proofs.live.NoTypesKnownTypes.has.Goals as goal

pub returns : goal.returns
returns c = nothing_has c.args._id.0
