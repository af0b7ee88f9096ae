use Rattle.wc_segments.proofs.validity.check_offset.Goals as goal

pub returns-in-None : goal.returns-in-None
returns-in-None c = rw c.in-None.is ((λ real h. h), (λ e. absurd cc))
