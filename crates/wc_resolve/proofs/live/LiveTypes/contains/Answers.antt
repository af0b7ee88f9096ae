use Rattle.wc_resolve.proofs.live.LiveTypes.contains.Goals as goal

pub returns : goal.returns
returns c =
    rw (← c.self.view_is, c.is_marked.ensures, c.deref.ensures.value) (c.self.invariant c.args.id.0)
