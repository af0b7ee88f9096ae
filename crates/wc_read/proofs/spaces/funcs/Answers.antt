use Rattle.std.proofs.Common.{◌⊎◌, inl, inr}
use Rattle.wc_read.proofs.SpacesLemmas.{all_funcs}
use Rattle.wc_read.proofs.spaces.funcs.Goals as goal

pub returns : goal.returns
returns c = all_funcs _ _ _ _ _ c.loop-ty.invariant (ends c.in-None.ensures.steps)
  where
    ends : {A B : Type 0} {P : A → Type 0} {Q : B → Type 0} {p q : Type 0} → ((x : A) × (p × P x)) ⊎ ((y : B) × (q × Q y)) → p ⊎ q
    ends (inl e) = inl e.1.0
    ends (inr e) = inr e.1.0
