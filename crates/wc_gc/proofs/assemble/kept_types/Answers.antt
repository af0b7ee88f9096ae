use Rattle.wc_gc.proofs.assemble.kept_types.Goals as goal

pub returns : goal.returns
returns g c = rw (c.deref.ensures.value, c.in_ok-indices.ensures) at c.types_at.ensures
