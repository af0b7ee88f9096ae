-- The plan of an encoder's world, and the faults of that world and its plan, are those of the encoder.
use Rattle.std.proofs.Common.{◌≡◌, ◌⊎◌, inl, inr, Result, Ok, Err, IfErr, IfOk, OnOk, refl, sym, subst, ◌∙◌}
use Rattle.wc_encoder.specs.EncoderParts.{EncoderView}
use Rattle.wc_world.specs.Causes.{HasNoCause, IsComponentWorldCause, IsMemory}
use Rattle.wc_world.specs.Options.{OptionsOf}
use Rattle.wc_world.specs.Views.{ComponentWorldView}
use Rattle.wc_world.specs.World.{IsWorldOf}
use Rattle.wc_world.specs.declared.fault.WorldFault.{WorldFault}
use Rattle.wc_world.specs.declared.fault.WorldFault.TheVariants.{Memory as world_memory, Main, Adapter, Trim, Minimized, PageSize}
use Rattle.wc_plan.specs.Encoder.{ForWorlds, IsEncoderFault, IsFaultWith, of_world}
use Rattle.wc_plan.specs.Fault.{HasNoFault, IsFaultNamed, IsFirstFault, UseFault, no_lowering, no_memory, no_realloc}
use Rattle.wc_plan.specs.Laws.{IsSameWorld}
use Rattle.wc_plan.specs.PlanViews.{plan_view}
use Rattle.wc_plan.specs.Plans.{plan_of}
use Rattle.wc_plan.specs.Planner.{IsPlanFault}
use Rattle.wc_plan.specs.declared.fault.PlanFault.{PlanFault}
use Rattle.wc_plan.specs.declared.fault.PlanFault.TheVariants.{Memory, World}
use Rattle.wc_plan.specs.declared.uses.Plan.{Plan}
use Rattle.wc_plan.proofs.SameWorldLemmas.{first_fault_of_same, no_fault_of_same, plan_of_same}

pub each_fault : {T : Type 0} (P Q : PlanFault → Type 0) → ((f : PlanFault) → P f → Q f) → (r : Result T PlanFault) → IfErr r P → IfErr r Q
each_fault P Q g (Ok x) h = tt
each_fault P Q g (Err f) h = g f h

module _ (options : OptionsOf) (e : EncoderView) where
  pub world_fault : (f : WorldFault) → IsMemory e f ⊎ IsComponentWorldCause e f → IsEncoderFault options e (of_world f)
  world_fault world_memory h = tt
  world_fault (Main v) h = (λ (is : Main v ≡ world_memory). cc is, h)
  world_fault (Adapter name v) h = (λ (is : Adapter name v ≡ world_memory). cc is, h)
  world_fault (Trim name g) h = (λ (is : Trim name g ≡ world_memory). cc is, h)
  world_fault (Minimized name v) h = (λ (is : Minimized name v ≡ world_memory). cc is, h)
  world_fault (PageSize name own main) h = (λ (is : PageSize name own main ≡ world_memory). cc is, h)

  -- where there is a world, its maker can have answered no fault but that an allocation failed
  module _ (w : ComponentWorldView) (none : HasNoCause e) where
    memory_alone : (f : WorldFault) → IsMemory e f ⊎ IsComponentWorldCause e f → IsMemory e f
    memory_alone f (inl h) = h
    memory_alone f (inr h) = absurd (none f h)

    pub world_fault_with : (f : WorldFault) → IsMemory e f ⊎ IsComponentWorldCause e f → IsFaultWith e w (of_world f)
    world_fault_with world_memory h = tt
    world_fault_with (Main v) h = (λ (is : Main v ≡ world_memory). cc is, memory_alone (Main v) h)
    world_fault_with (Adapter name v) h = (λ (is : Adapter name v ≡ world_memory). cc is, memory_alone (Adapter name v) h)
    world_fault_with (Trim name g) h = (λ (is : Trim name g ≡ world_memory). cc is, memory_alone (Trim name g) h)
    world_fault_with (Minimized name v) h = (λ (is : Minimized name v ≡ world_memory). cc is, memory_alone (Minimized name v) h)
    world_fault_with (PageSize name own main) h = (λ (is : PageSize name own main ≡ world_memory). cc is, memory_alone (PageSize name own main) h)

  module _ (w : ComponentWorldView) (made : IsWorldOf options e w) where
    pub planned : (r : Result Plan PlanFault) → IfOk r (λ p. plan_view p ≡ plan_of w) → OnOk r (HasNoFault w)
        → IfOk r (λ p. (x : ComponentWorldView) × IsWorldOf options e x × HasNoFault x × (plan_view p ≡ plan_of x))
    planned (Ok p) h servable = (w, made, servable, h)
    planned (Err f) h servable = tt

    no_world_fault : (g : WorldFault) (p : IsFirstFault w (World g)) (k : UseFault) → p.kind ≡ k → ⊥
    no_world_fault g p no_memory is = subst (λ k. IsFaultNamed k p.at.0.name (World g)) is p.named
    no_world_fault g p no_realloc is = subst (λ k. IsFaultNamed k p.at.0.name (World g)) is p.named
    no_world_fault g p no_lowering is = subst (λ k. IsFaultNamed k p.at.0.name (World g)) is p.named

    first_fault : (f : PlanFault) → IsFirstFault w f → IsEncoderFault options e f
    first_fault Memory p = tt
    first_fault (World g) p = absurd (no_world_fault g p p.kind refl)
    first_fault f p = (w, made, p)

    pub plan_fault : (f : PlanFault) → IsPlanFault w f → IsEncoderFault options e f
    plan_fault f (inl is) = subst (IsEncoderFault options e) (sym is) tt
    plan_fault f (inr p) = first_fault f p

    -- the plan is that of each world of the encoder
    pub planned_each : (r : Result Plan PlanFault) → IfOk r (λ p. plan_view p ≡ plan_of w) → OnOk r (HasNoFault w) → ForWorlds options e (λ x. IsSameWorld w x)
        → IfOk r (λ p. ForWorlds options e (λ x. HasNoFault x × (plan_view p ≡ plan_of x)))
    planned_each (Ok p) h servable same = λ x has. (no_fault_of_same w x (same x has) servable, h ∙ plan_of_same w x (same x has))
    planned_each (Err f) h servable same = tt

    first_fault_with : (x : ComponentWorldView) → IsSameWorld w x → (f : PlanFault) → IsFirstFault w f → IsFaultWith e x f
    first_fault_with x same Memory p = tt
    first_fault_with x same (World g) p = absurd (no_world_fault g p p.kind refl)
    first_fault_with x same f p = first_fault_of_same w x same f p

    pub plan_fault_with : (x : ComponentWorldView) → IsSameWorld w x → (f : PlanFault) → IsPlanFault w f → IsFaultWith e x f
    plan_fault_with x same f (inl is) = subst (IsFaultWith e x) (sym is) tt
    plan_fault_with x same f (inr p) = first_fault_with x same f p
