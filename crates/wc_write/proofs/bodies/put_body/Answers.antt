use Rattle.wc_write.proofs.BodyLemmas.{body_written}
use Rattle.wc_write.proofs.bodies.put_body.Goals as goal

pub returns : goal.returns
returns c = rw (c.in_ok-put_all.ensures, c.in_ok-put_vector.ensures, c.deref.ensures.value, c.deref-2.ensures.value) (body_written c.args.out.now.items c.args.body.now)
