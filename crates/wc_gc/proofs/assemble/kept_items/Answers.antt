use Rattle.wc_gc.proofs.assemble.kept_items.Goals as goal

pub returns : goal.returns
returns g c = rw (c.deref.ensures.value, c.in_ok-indices.ensures) at c.items_at.ensures
