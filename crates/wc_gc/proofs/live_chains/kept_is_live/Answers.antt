use Rattle.wc_gc.specs.Edit.{edit}
use Rattle.wc_gc.proofs.live_chains.kept_is_live.Goals as goal

pub returns : goal.returns
unfolding edit
returns c = λ s w text t x. t.decides x
