-- The functions that the modules of a component's world import.
use Rattle.std.specs.Prelude.{ℕ, List, [], ◌∷◌, ◌++◌, Bool, true, false, not, ◌&&◌, Option, Some, None, filter}
use Rattle.std.specs.List.{filter_map, flat_map}
use Rattle.std.specs.Option.{option_eq, option_map}
use Rattle.std.specs.Str.{bytes_eq}
use Rattle.semver.specs.Identifiers.{parts_text}
use Rattle.wc_resolve.specs.Resolve.{key_text}
use Rattle.wc_resolve.specs.Kinds.{ResolveView}
use Rattle.wc_names.specs.Views.{ImportView, interface_func, world_func}
use Rattle.wc_validate.specs.Exports.Map.{ExportRecord}
use Rattle.wc_validate.specs.Imports.Map.{imports_in}
use Rattle.wc_validate.specs.Validate.{ModuleRecord}
use Rattle.wc_world.specs.FunctionsLowered.{abi_eq}
use Rattle.wc_world.specs.Views.{ComponentWorldView, NamedWorldAdapter}
use Rattle.wc_plan.specs.Views.{CallView, OwnerView, adapter_owner, main_owner}

-- the function that an import of a module is, if it is one
abbrev pub call_of : ResolveView → OwnerView → ImportView → Option CallView
call_of r owner (world_func key name abi) = Some (record { owner = owner; interface = None; name = name; abi = abi })
call_of r owner (interface_func key i name abi) = Some (record { owner = owner; interface = key_text parts_text r key; name = name; abi = abi })
call_of r owner import = None

-- a function that a module imports, with the module's exports
abbrev pub Wanted : Type 0
Wanted = CallView × ExportRecord

-- the functions that a module imports, in the order in which they are recorded
abbrev pub wanted_by : ResolveView → OwnerView → ModuleRecord → List Wanted
wanted_by r owner m = filter_map (λ (x : List ℕ × (List ℕ × ImportView)). option_map (λ (c : CallView). (c, m.exports)) (call_of r owner x.1.1)) (imports_in m.imports)

-- the functions that the main module imports, and then those of each adapter, in order
abbrev pub all_wanted : ComponentWorldView → List Wanted
all_wanted w =
    wanted_by w.encoder.resolve main_owner w.info
    ++ flat_map (λ (a : NamedWorldAdapter). wanted_by w.encoder.resolve (adapter_owner a.0) a.1.info) w.adapters

-- functions are equal where all of this is

abbrev pub owner_eq : OwnerView → OwnerView → Bool
owner_eq main_owner main_owner = true
owner_eq (adapter_owner m) (adapter_owner n) = bytes_eq m n
owner_eq a b = false

abbrev pub call_eq : CallView → CallView → Bool
call_eq a b = owner_eq a.owner b.owner && (option_eq bytes_eq a.interface b.interface && (bytes_eq a.name b.name && abi_eq a.abi b.abi))

-- of equal ones the first
abbrev pub firsts : List Wanted → List Wanted
firsts [] = []
firsts (x ∷ xs) = x ∷ filter (λ (y : Wanted). not (call_eq x.0 y.0)) (firsts xs)

abbrev pub wanted : ComponentWorldView → List Wanted
wanted w = firsts (all_wanted w)
