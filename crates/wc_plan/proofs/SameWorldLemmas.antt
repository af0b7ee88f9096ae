-- The plans of worlds that are the same, and their faults, are the same.
use Rattle.std.proofs.Common.{◌≡◌, ℕ, List, [], ◌∷◌, ◌++◌, All, refl, sym, ap, subst, ◌∙◌}
use Rattle.std.specs.List.{AllZip, flat_map}
use Rattle.wc_world.specs.Views.{ComponentWorldView, NamedWorldAdapter}
use Rattle.wc_plan.specs.Calls.{Wanted, firsts, wanted, wanted_by}
use Rattle.wc_plan.specs.Fault.{HasNoFault, IsFirstFault, IsServable}
use Rattle.wc_plan.specs.Laws.{IsSameAdapter, IsSameWorld}
use Rattle.wc_plan.specs.Plans.{plan_of, use_of, uses_from}
use Rattle.wc_plan.specs.Views.{UseView, adapter_owner, main_owner}
use Rattle.wc_plan.specs.declared.fault.PlanFault.{PlanFault}

pub flat_same : {B : Type 0} (f : NamedWorldAdapter → List B) → ((y z : NamedWorldAdapter) → IsSameAdapter y z → f y ≡ f z) → (ys zs : List NamedWorldAdapter)
    → AllZip IsSameAdapter ys zs → flat_map f ys ≡ flat_map f zs
flat_same f each [] [] h = refl
flat_same f each [] (z ∷ zs) h = absurd h
flat_same f each (y ∷ ys) [] h = absurd h
flat_same f each (y ∷ ys) (z ∷ zs) h = ap (λ first. first ++ flat_map f ys) (each y z h.0) ∙ ap (λ rest. f z ++ rest) (flat_same f each ys zs h.1)

-- a world with other adapters
abbrev with_adapters : ComponentWorldView → List NamedWorldAdapter → ComponentWorldView
with_adapters w ys = record {
  encoder = w.encoder;
  info = w.info;
  adapters = ys;
  import_map = w.import_map;
  live_type_imports = w.live_type_imports;
  exports_used = w.exports_used;
}

module _ (w : ComponentWorldView) (ys : List NamedWorldAdapter) (same : AllZip IsSameAdapter w.adapters ys) where
  abbrev other : ComponentWorldView
  other = with_adapters w ys

  uses_same : (xs : List Wanted) (slots : ℕ) → uses_from w slots xs ≡ uses_from other slots xs
  uses_same [] slots = refl
  uses_same (x ∷ xs) slots = ap (λ (rest : List UseView). use_of w slots x ∷ rest) (uses_same xs _)

  wanted_same : wanted w ≡ wanted other
  wanted_same =
      ap (λ (rest : List Wanted). firsts (wanted_by w.encoder.resolve main_owner w.info ++ rest))
      (flat_same (λ (a : NamedWorldAdapter). wanted_by w.encoder.resolve (adapter_owner a.0) a.1.info)
      (λ y z h. ap (λ name. wanted_by w.encoder.resolve (adapter_owner name) y.1.info) h.named ∙ ap (λ m. wanted_by w.encoder.resolve (adapter_owner z.0) m) h.info) w.adapters ys same)

  plan_same : plan_of w ≡ plan_of other
  plan_same = uses_same (wanted w) 0 ∙ ap (λ xs. uses_from other 0 xs) wanted_same

  servable_same : HasNoFault w → HasNoFault other
  servable_same h = subst (All (IsServable w)) wanted_same h

  first_same : (f : PlanFault) → IsFirstFault w f → IsFirstFault other f
  first_same f p = record {
    front = p.front;
    at = p.at;
    back = p.back;
    kind = p.kind;
    cut = sym wanted_same ∙ p.cut;
    servable = p.servable;
    stopped = p.stopped;
    named = p.named;
  }

module _ (w x : ComponentWorldView) (same : IsSameWorld w x) where
  is_other : with_adapters w x.adapters ≡ x
  is_other = λ k. record {
    encoder = same.encoder k;
    info = same.main k;
    adapters = x.adapters;
    import_map = same.lowerings k;
    live_type_imports = same.live k;
    exports_used = same.used k;
  }

  pub plan_of_same : plan_of w ≡ plan_of x
  plan_of_same = plan_same w x.adapters same.adapters ∙ ap plan_of is_other

  pub no_fault_of_same : HasNoFault w → HasNoFault x
  no_fault_of_same h = subst HasNoFault is_other (servable_same w x.adapters same.adapters h)

  pub first_fault_of_same : (f : PlanFault) → IsFirstFault w f → IsFirstFault x f
  first_fault_of_same f p = subst (λ z. IsFirstFault z f) is_other (first_same w x.adapters same.adapters f p)
