use Rattle.wc_read.specs.BodyOperators.{init_in}
use Rattle.wc_read.proofs.CausesLemmas.{nulls_begin}
use Rattle.wc_read.proofs.init_types.init_has_types.Goals as goal

pub loop-operator-init : goal.loop-operator-init
loop-operator-init c = rw c.new-operators.ensures (nulls_begin c.args.types (init_in c.args.init.now))
