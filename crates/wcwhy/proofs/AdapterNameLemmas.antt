-- The names of adapters, and those that options are about.
use Rattle.std.proofs.Common.{◌≡◌, ℕ, List, Result, OnOk, IfErr, sym, subst}
use Rattle.std.specs.Borrow.{Bor}
use Rattle.wc_maps.specs.Texts.{AreDistinct, IsFirstMissing}
use Rattle.wcwhy.specs.AdapterNames.{AreAdaptersNamed, IsNamesCause, IsNoAdapter}
use Rattle.wcwhy.specs.declared.fault.WhyFault.{WhyFault}
use Rattle.wcwhy.specs.declared.fault.WhyFault.TheVariants.{Memory, NoAdapter}

-- the same of the same names

pub named_as : {T : Type 0} (r : Result T WhyFault) (xs ys zs ws : List (List ℕ)) → xs ≡ ys → zs ≡ ws → OnOk r (AreAdaptersNamed xs zs)
    → OnOk r (AreAdaptersNamed ys ws)
named_as r xs ys zs ws a b h = subst (λ x. OnOk r (AreAdaptersNamed x ws)) a (subst (λ z. OnOk r (AreAdaptersNamed xs z)) b h)

pub cause_as : {T : Type 0} (r : Result T WhyFault) (xs ys zs ws : List (List ℕ)) → xs ≡ ys → zs ≡ ws → IfErr r (IsNamesCause xs zs)
    → IfErr r (IsNamesCause ys ws)
cause_as r xs ys zs ws a b h = subst (λ x. IfErr r (IsNamesCause x ws)) a (subst (λ z. IfErr r (IsNamesCause xs z)) b h)

-- an adapter that is not there
pub missing_cause : (names asked : List (List ℕ)) (name : Bor (List ℕ)) (f : WhyFault) → AreDistinct names → IsFirstMissing asked names name.now
    → IsNoAdapter names name f → IsNamesCause names asked f
missing_cause names asked name Memory distinct missing h = tt
missing_cause names asked name (NoAdapter n listing) distinct missing h =
    (distinct, subst (λ (z : Bor (List ℕ)). IsFirstMissing asked names z.now) (sym h.0) missing, h.1)
missing_cause names asked name f distinct missing h = absurd h
