-- Why a component's world has no plan; and the texts and the numbers of faults.
use Rattle.std.specs.Prelude.{◌≡◌, ◌⊎◌, ℕ, List, ◌∷◌, ◌++◌, not, ◌&&◌, All, Option, Some, None, is_none, cond, codes, string_bytes}
use Rattle.std.specs.Option.{option_map}
use Rattle.wc_plan.specs.Views.{CallView, OwnerView, adapter_owner, main_owner}
use Rattle.wc_texts.specs.declared.refused.Refused.{Refused}
use Rattle.wc_world.specs.Options.{memory_flag, realloc_flag}
use Rattle.wc_world.specs.Views.{ComponentWorldView, LoweringView}
use Rattle.wc_plan.specs.Calls.{Wanted, wanted}
use Rattle.wc_plan.specs.Plans.{has_memory, import_realloc, lowering_of, needs}
use Rattle.wc_plan.specs.declared.fault.PlanFault.{PlanFault}
use Rattle.wc_plan.specs.declared.fault.PlanPlace.{PlanPlace}
use Rattle.wc_texts.specs.FaultTexts.{carried_text, memory_text}
use Rattle.wc_world.specs.Fault.{world_fault_text}
use Rattle.wc_plan.specs.declared.fault.PlanFault.TheVariants.{Memory, NoMemory, NoRealloc, NoLowering, World, Output}

-- the kinds of faults of a function
pub data UseFault : Type 0 where
  no_memory : UseFault
  no_realloc : UseFault
  no_lowering : UseFault

-- the first that a function has: it has no lowering; it needs a memory, and there is none; or it needs a realloc, and its
-- module has none
abbrev pub lowered_fault : ComponentWorldView → Wanted → Option LoweringView → Option UseFault
lowered_fault w x None = Some no_lowering
lowered_fault w x (Some l) =
    cond (needs memory_flag l && not (has_memory w.info)) (Some no_memory)
    (cond (needs realloc_flag l && is_none (import_realloc x.1)) (Some no_realloc) None)

abbrev pub fault_of : ComponentWorldView → Wanted → Option UseFault
fault_of w x = lowered_fault w x (lowering_of w x.0)

abbrev pub IsServable : ComponentWorldView → Wanted → Type 0
IsServable w x = fault_of w x ≡ None

-- no function has one
abbrev pub HasNoFault : ComponentWorldView → Type 0
HasNoFault w = All (IsServable w) (wanted w)

-- a fault carries a function's name
abbrev pub IsFaultNamed : UseFault → List ℕ → PlanFault → Type 0
IsFaultNamed no_memory name (NoMemory n) = string_bytes n ≡ name
IsFaultNamed no_realloc name (NoRealloc n) = string_bytes n ≡ name
IsFaultNamed no_lowering name (NoLowering n) = string_bytes n ≡ name
IsFaultNamed kind name f = ⊥

-- a fault is that of the first function that has one
pub record IsFirstFault (w : ComponentWorldView) (f : PlanFault) : Type 0 where
  pub front : List Wanted
  pub at : Wanted
  pub back : List Wanted
  pub kind : UseFault
  pub cut : wanted w ≡ front ++ at ∷ back
  pub servable : All (IsServable w) front
  pub stopped : fault_of w at ≡ Some kind
  pub named : IsFaultNamed kind at.0.name f

-- the adapter of a name, or the main module
abbrev pub owner_named : Option (List ℕ) → OwnerView
owner_named None = main_owner
owner_named (Some name) = adapter_owner name

-- the function that a fault is about
abbrev pub place_view : PlanPlace → CallView
place_view p = record {
  owner = owner_named (option_map string_bytes p.adapter);
  interface = option_map string_bytes p.interface;
  name = string_bytes p.name;
  abi = p.abi;
}

-- a fault of a plan, and its place
abbrev pub RefusedPlan : Type 0
RefusedPlan = Refused PlanFault PlanPlace

-- an allocation failed, which is about no function
abbrev pub IsMemoryRefusal : RefusedPlan → Type 0
IsMemoryRefusal x = (x.fault ≡ Memory) × (x.place ≡ None)

-- a fault is that of the first function that has one, and about this function; or an allocation failed
abbrev pub IsPlanRefusal : ComponentWorldView → RefusedPlan → Type 0
IsPlanRefusal w x = IsMemoryRefusal x ⊎ ((first : IsFirstFault w x.fault) × (option_map place_view x.place ≡ Some first.at.0))

-- the text of a fault
abbrev pub plan_fault_text : PlanFault → List ℕ
plan_fault_text Memory = memory_text
plan_fault_text (NoMemory name) = codes "NoMemory"
plan_fault_text (NoRealloc name) = codes "NoRealloc"
plan_fault_text (NoLowering name) = codes "NoLowering"
plan_fault_text (World f) = carried_text (codes "World") (world_fault_text f)
plan_fault_text Output = codes "Output"

-- the number of a fault, its position in the enum
abbrev pub plan_fault_number : PlanFault → ℕ
plan_fault_number Memory = 0
plan_fault_number (NoMemory name) = 1
plan_fault_number (NoRealloc name) = 2
plan_fault_number (NoLowering name) = 3
plan_fault_number (World f) = 4
plan_fault_number Output = 5
