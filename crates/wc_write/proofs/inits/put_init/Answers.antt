use Rattle.std.proofs.Common.{◌++◌, ap}
use Rattle.wc_write.proofs.DefinedItemLemmas.{init_texts}
use Rattle.wc_write.proofs.inits.put_init.Goals as goal

pub returns : goal.returns
returns c = rw (c.in_ok-put_all.ensures, c.deref.ensures.value) (ap (λ z. c.args.out.now.items ++ z) (init_texts c.args.init.now.operators.items))
