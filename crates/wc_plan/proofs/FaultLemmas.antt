-- Where no function has a fault, none is the first; and the fault of a refusal.
use Rattle.std.proofs.Common.{◌≡◌, ◌∷◌, ◌++◌, All, Some, None, inl, inr, sym, ◌∙◌, subst}
use Rattle.std.proofs.lemmas.List.Elements.{All-head}
use Rattle.wc_world.specs.Views.{ComponentWorldView}
use Rattle.wc_plan.specs.Fault.{HasNoFault, IsFirstFault, IsPlanRefusal, IsServable, RefusedPlan}
use Rattle.wc_plan.specs.Planner.{IsPlanFault}
use Rattle.wc_plan.specs.declared.fault.PlanFault.{PlanFault}
use Rattle.wc_world.proofs.PairListLemmas.{all_back}

pub no_first_fault : (w : ComponentWorldView) (f : PlanFault) → HasNoFault w → ¬ IsFirstFault w f
no_first_fault w f servable p =
    let cut : All (IsServable w) (p.front ++ p.at ∷ p.back) = subst (All (IsServable w)) p.cut servable in
    let bad : Some p.kind ≡ None = sym p.stopped ∙ All-head (IsServable w) p.at p.back (all_back (IsServable w) p.front (p.at ∷ p.back) cut) in
    cc bad

pub fault_of_refusal : (w : ComponentWorldView) (x : RefusedPlan) → IsPlanRefusal w x → IsPlanFault w x.fault
fault_of_refusal w x (inl memory) = inl memory.0
fault_of_refusal w x (inr (first, about)) = inr first
