-- What is seen of a plan.
use Rattle.std.specs.Prelude.{List, map, Option, String, string_bytes}
use Rattle.std.specs.Option.{option_map}
use Rattle.std.specs.declared.alloc.Global.{Global}
use Rattle.wc_resolve.specs.declared.functions.AbiVariant.{AbiVariant}
use Rattle.wc_plan.specs.Views.{CallView, OwnerView, UseView, adapter_owner, main_owner}
use Rattle.wc_plan.specs.declared.uses.Owner.{Owner}
use Rattle.wc_plan.specs.declared.uses.Owner.TheVariants.{Main, Adapter}
use Rattle.wc_plan.specs.declared.uses.Plan.{Plan}
use Rattle.wc_plan.specs.declared.uses.Use.{Use}

abbrev pub owner_view : Owner → OwnerView
owner_view Main = main_owner
owner_view (Adapter name) = adapter_owner (string_bytes name)

-- a function of a module, by its interface's name, its own name, and how it is called
abbrev pub call_view : OwnerView → Option (String Global) × (String Global × AbiVariant) → CallView
call_view owner c = record { owner = owner; interface = option_map string_bytes c.0; name = string_bytes c.1.0; abi = c.1.1 }

-- the owner is the field «module»
abbrev pub use_view : Use → UseView
use_view u = record {
  call = record { owner = owner_view u.«module»; interface = option_map string_bytes u.interface; name = string_bytes u.name; abi = u.abi };
  slot = u.slot;
  realloc = option_map string_bytes u.realloc;
}

abbrev pub plan_view : Plan → List UseView
plan_view p = map use_view p.uses.items
