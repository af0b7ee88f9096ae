-- Why parts are refused: the first fault, and the first part that breaks its rule.
use Rattle.std.specs.Prelude.{◌≡◌, ◌⊎◌, ℕ, List, Some, None}
use Rattle.wc_resolve.specs.declared.fault.ResolveFault.{ResolveFault}
use Rattle.wc_resolve.specs.declared.fault.ResolveFault.TheVariants.{Memory, Cycle, NameClash}
use Rattle.wc_resolve.specs.declared.validate.order.OrderFault.{OrderFault}
use Rattle.wc_resolve.specs.declared.validate.order.OrderFault.TheVariants.{Memory as NoMemory, Cycle as OnCycle}
use Rattle.wc_resolve.specs.declared.explain.Part.{Part}
use Rattle.wc_resolve.specs.declared.explain.Part.TheVariants.{TypeDef, Package}
use Rattle.wc_resolve.specs.declared.validate.Checked.{Checked}
use Rattle.wc_resolve.specs.Fault.{IsResolveCause}
use Rattle.wc_resolve.specs.Explain.{IsBreach, IsPlace, IsRepeatAt}
use Rattle.wc_resolve.specs.Resources.{AreResourceFlags}
use Rattle.wc_resolve.specs.Validate.{AreNamesOf, IsOrder}
use Rattle.wc_resolve.specs.Views.{PackageView}
use Rattle.wc_resolve.specs.WellFormed.{IsWellFormed}
use Rattle.wc_resolve.specs.Kinds.{ResolveView}
use Rattle.wc_texts.specs.declared.refused.Refused.{Refused}

-- why parts are refused, and the part that it is about
abbrev pub Refusal : Type 0
Refusal = Refused ResolveFault Part

-- an allocation failed: it is about no part
abbrev pub IsMemoryRefusal : Refusal → Type 0
IsMemoryRefusal x = (x.fault ≡ Memory) × (x.place ≡ None)

-- the first part that breaks the rule of a fault
abbrev pub IsRuleBroken : ResolveView → ResolveFault → Refusal → Type 0
IsRuleBroken r f x = IsMemoryRefusal x ⊎ ((x.fault ≡ f) × (p : Part) × (x.place ≡ Some p) × IsBreach r f p)

-- the first package that has the name and version of an earlier one
abbrev pub IsRepeatRefused : List PackageView → Refusal → Type 0
IsRepeatRefused packages x =
    IsMemoryRefusal x ⊎ ((x.fault ≡ NameClash) × (i : ℕ) × (x.place ≡ Some (Package i)) × IsRepeatAt packages i)

-- that there is no order of the types
abbrev pub IsOrderRefusal : OrderFault → Refusal → Type 0
IsOrderRefusal NoMemory x = IsMemoryRefusal x
IsOrderRefusal (OnCycle index) x = (x.fault ≡ Cycle) × (x.place ≡ Some (TypeDef index))

-- the fault of parts, and what it is about
abbrev pub IsRefusal : ResolveView → Refusal → Type 0
IsRefusal r x = IsMemoryRefusal x ⊎ ((p : Part) × (x.place ≡ Some p) × IsResolveCause r x.fault × IsPlace r x.fault p)

pub record AreChecked (r : ResolveView) (checked : Checked) : Type 0 where
  pub formed : IsWellFormed r
  pub ordered : IsOrder r.types checked.order.items
  pub has_resources : AreResourceFlags r.types checked.resources.items
  pub has_names : AreNamesOf r.packages checked.package_names.keys
