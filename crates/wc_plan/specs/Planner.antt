-- A plan that is made function by function.
use Rattle.std.specs.Prelude.{◌≡◌, ◌⊎◌, ℕ, ◌≤◌, List, ◌++◌, map, length, filter, not, All, Bool, Option, Some, Result, IfErr, OnOk, String}
use Rattle.std.specs.Borrow.{Bor}
use Rattle.std.specs.List.{flat_map, list_any}
use Rattle.std.specs.Option.{option_copied, option_map}
use Rattle.std.specs.declared.alloc.Global.{Global}
use Rattle.wc_resolve.specs.declared.functions.AbiVariant.{AbiVariant}
use Rattle.wc_resolve.specs.Kinds.{ResolveView}
use Rattle.wc_names.specs.Views.{ImportView}
use Rattle.wc_world.specs.Views.{ComponentWorldView, NamedWorldAdapter}
use Rattle.wc_world.specs.WorldViews.{world_view}
use Rattle.wc_plan.specs.Calls.{Wanted, call_eq, call_of, firsts, wanted, wanted_by}
use Rattle.wc_plan.specs.Fault.{IsFaultNamed, IsFirstFault, IsMemoryRefusal, IsPlanRefusal, IsServable, RefusedPlan, UseFault, fault_of, owner_named, place_view}
use Rattle.wc_plan.specs.Plans.{has_memory, uses_from}
use Rattle.wc_plan.specs.PlanViews.{call_view, use_view}
use Rattle.wc_plan.specs.Views.{CallView, OwnerView, UseView, adapter_owner}
use Rattle.wc_plan.specs.declared.fault.PlanFault.{PlanFault}
use Rattle.wc_plan.specs.declared.fault.PlanFault.TheVariants.{Memory}
use Rattle.wc_plan.specs.declared.planner.Context.{Context}
use Rattle.wc_plan.specs.declared.planner.Importer.{Importer}
use Rattle.wc_plan.specs.declared.planner.Planner.{Planner}

abbrev pub Call : Type 0
Call = Option (String Global) × (String Global × AbiVariant)

-- the adapter of a name, or the main module
abbrev pub owner_in : Option (Bor (List ℕ)) → OwnerView
owner_in name = owner_named (option_copied name)

-- the world that a plan is of, and whether it has a memory
abbrev pub world_in : Context → ComponentWorldView
world_in context = world_view context.world.now

abbrev pub IsContext : Context → Type 0
IsContext context = context.has_memory ≡ has_memory (world_in context).info

-- a function of a module
abbrev pub wanted_call : Importer → Call → Wanted
wanted_call importer call = (call_view (owner_in importer.owner) call, importer.exports.now)

-- the function that an import is, if it is one
abbrev pub wanted_import : ResolveView → Importer → ImportView → Option Wanted
wanted_import r importer import = option_map (λ (c : CallView). (c, importer.exports.now)) (call_of r (owner_in importer.owner) import)

-- the functions that adapters import
abbrev pub wanted_by_adapters : ComponentWorldView → List Wanted
wanted_by_adapters w = flat_map (λ (a : NamedWorldAdapter). wanted_by w.encoder.resolve (adapter_owner a.0) a.1.info) w.adapters

-- a function was found before
abbrev pub is_seen : List CallView → Wanted → Bool
is_seen seen x = list_any (call_eq x.0) seen

-- of some functions, those that come first and were not found before
abbrev pub left : List CallView → List Wanted → List Wanted
left seen xs = filter (λ (x : Wanted). not (is_seen seen x)) (firsts xs)

-- The functions that were found first have these uses, and no fault. With those that are left they are all that come
-- first in a world.
pub record Progress (w : ComponentWorldView) (rest : List Wanted) (seen : List CallView) (uses : List UseView) (slots : ℕ) : Type 0 where
  pub front : List Wanted
  pub cut : wanted w ≡ front ++ left seen rest
  pub servable : All (IsServable w) front
  pub made : uses_from w 0 (wanted w) ≡ uses ++ uses_from w slots (left seen rest)

abbrev pub seen_view : Option (Bor (List ℕ)) × Call → CallView
seen_view c = call_view (owner_in c.0) c.1

abbrev pub IsPlanned : ComponentWorldView → List Wanted → Planner → Type 0
IsPlanned w rest p = Progress w rest (map seen_view p.seen.keys) (map use_view p.uses.items) p.slots

-- a plan in progress has as many uses as slots at least
abbrev pub IsCounted : Planner → Type 0
IsCounted p = p.slots ≤ length p.uses.items

-- a function has the fault, which is about it; or memory ran out
abbrev pub IsCallRefusal : ComponentWorldView → Wanted → RefusedPlan → Type 0
IsCallRefusal w x r =
    IsMemoryRefusal r
    ⊎ ((kind : UseFault) × (fault_of w x ≡ Some kind) × IsFaultNamed kind x.0.name r.fault × (option_map place_view r.place ≡ Some x.0))

-- the first function that has a fault has this one, or memory ran out
abbrev pub IsPlanFault : ComponentWorldView → PlanFault → Type 0
IsPlanFault w f = (f ≡ Memory) ⊎ IsFirstFault w f

-- The functions that come next are planned, once all before them are. Or else the first fault of all is answered.

abbrev pub Plans : {X : Type 0} → ComponentWorldView → (List Wanted → List Wanted) → Planner → Planner → Result X RefusedPlan → Type 0
Plans w next old new result = (rest : List Wanted) → IsPlanned w (next rest) old → OnOk result (IsPlanned w rest new)

abbrev pub RefusesPlan : {X : Type 0} → ComponentWorldView → (List Wanted → List Wanted) → Planner → Result X RefusedPlan → Type 0
RefusesPlan w next old result = (rest : List Wanted) → IsPlanned w (next rest) old → IfErr result (IsPlanRefusal w)
