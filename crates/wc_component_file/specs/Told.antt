-- What each core module of a component is by its name, or by its exports.
use Rattle.std.specs.Prelude.{◌≡◌, ◌≢◌, ℕ, suc, ◌<◌, Bool, true, false, ◌||◌, ◌==◌, ⊤, ◌⊎◌, List, [], ◌∷◌, length, map, filter, Option, Some, None, cond, codes, nat_eq}
use Rattle.std.specs.List.{list_all, slice_get}
use Rattle.std.specs.Str.{bytes_eq}
use Rattle.wc_read.specs.Exports.{ExportValue}
use Rattle.wc_read.specs.Fault.{SpellsNothing}
use Rattle.wc_read.specs.Modules.{ModuleValue, SpellsModule}
use Rattle.wc_read.specs.Place.{IsPlaced}
use Rattle.wc_read.specs.declared.fault.ReadFault.{ReadFault}
use Rattle.wc_read.specs.declared.fault.ReadFault.TheVariants.{Memory}
use Rattle.wc_read.specs.declared.place.ReadPlace.{ReadPlace}
use Rattle.wc_texts.specs.Prefixes.{rest_after}
use Rattle.wc_component_file.specs.Files.{CoreModuleView}
use Rattle.wc_component_file.specs.Renamed.{is_number}
use Rattle.wc_component_file.specs.Serving.{function_names}
use Rattle.wc_component_file.specs.declared.main_module.MainModule.{MainModule}
use Rattle.wc_component_file.specs.declared.role.Role.{Role}
use Rattle.wc_component_file.specs.declared.role.Role.TheVariants.{Main, Adapter, Library, Shim, Fixup, Other}
use Rattle.wc_component_file.specs.declared.told.Told.{Told}
use Rattle.wc_component_file.specs.declared.told.Told.TheVariants.{Known, Candidate}

-- a role, names as bytes
pub data RoleView : Type 0 where
  the_main : RoleView
  adapter_for : List ℕ → RoleView
  library_named : List ℕ → RoleView
  a_shim : RoleView
  a_fixup : RoleView
  another : RoleView

abbrev pub role_view : Role → RoleView
role_view Main = the_main
role_view (Adapter name) = adapter_for name.now
role_view (Library name) = library_named name.now
role_view Shim = a_shim
role_view Fixup = a_fixup
role_view Other = another

-- what is told: a role; or that of a candidate, which exports functions of these names, what it serves decides
pub data ToldView : Type 0 where
  known : RoleView → ToldView
  candidate : List (List ℕ) → ToldView

abbrev pub told_view : Told → ToldView
told_view (Known role) = known (role_view role)
told_view (Candidate functions) = candidate (map (λ f. f.now) functions.items)

-- by its name
abbrev pub fixed_role : Bool → List ℕ → Option RoleView
fixed_role is_named name =
    cond (bytes_eq name (codes "wit-component-shim-module") || bytes_eq name (codes "start-shim-module")) (Some a_shim)
    (cond (bytes_eq name (codes "wit-component-fixup")) (Some a_fixup)
    (cond is_named (Some (library_named name)) None))

-- of an adapter, the rest of its name after a prefix
abbrev pub role_with : Bool → List ℕ → Option (List ℕ) → Option RoleView
role_with is_named name (Some rest) = Some (adapter_for rest)
role_with is_named name None = fixed_role is_named name

-- is_named: the main module was found by its name
abbrev pub role_of_name : Bool → Option (List ℕ) → Option RoleView
role_of_name is_named None = None
role_of_name is_named (Some name) = role_with is_named name (rest_after (codes "wit-component:adapter:") name)

-- by its exports
abbrev pub is_shim_name : List ℕ → Bool
is_shim_name name = is_number name || bytes_eq name (codes "$imports")

abbrev pub told_by_exports : List ExportValue → ToldView
told_by_exports exports =
    cond (length exports == 0) (known a_fixup)
    (cond (list_all (λ (e : ExportValue). is_shim_name e.name) exports) (known a_shim)
    (candidate (function_names exports)))

-- by its name, or else by the exports of the module that its bytes spell
abbrev pub IsToldBy : Option RoleView → List ℕ → ToldView → Type 0
IsToldBy (Some role) bytes told = told ≡ known role
IsToldBy None bytes told = (m : ModuleValue) × SpellsModule bytes m × (told ≡ told_by_exports m.exports)

-- a module at the position of the main module, or at another one
abbrev pub IsToldIf : Bool → Bool → CoreModuleView → ToldView → Type 0
IsToldIf true is_named core told = told ≡ known the_main
IsToldIf false is_named core told = IsToldBy (role_of_name is_named core.name) core.bytes told

abbrev pub IsTold : MainModule → ℕ → CoreModuleView → ToldView → Type 0
IsTold main position core told = IsToldIf (nat_eq position main.position) main.is_named core told

-- two lists are as long, and what is at a position of both belongs together
abbrev pub EachAt : {A B : Type 0} → (ℕ → A → B → Type 0) → List A → List B → Type 0
EachAt P [] [] = ⊤
EachAt P [] (y ∷ ys) = ⊥
EachAt P (x ∷ xs) [] = ⊥
EachAt P (x ∷ xs) (y ∷ ys) = P 0 x y × EachAt (λ k. P (suc k)) xs ys

abbrev pub AreTold : MainModule → List CoreModuleView → List ToldView → Type 0
AreTold main modules told = EachAt (IsTold main) modules told

abbrev pub is_candidate : ToldView → Bool
is_candidate (known role) = false
is_candidate (candidate functions) = true

abbrev pub candidates : List ToldView → ℕ
candidates told = length (filter is_candidate told)

-- a module is read where its name does not tell what it is; and the main module, where there is a candidate
abbrev pub IsUntold : MainModule → ℕ → CoreModuleView → Type 0
IsUntold main position core = (nat_eq position main.position ≡ false) × (role_of_name main.is_named core.name ≡ None)

abbrev pub IsAsked : MainModule → List CoreModuleView → ℕ → Type 0
IsAsked main modules position = (position ≡ main.position) × ((told : List ToldView) × AreTold main modules told × (0 < candidates told))

-- these bytes spell no module: a fault of reading them, and its place
pub record IsBadModule (bytes : List ℕ) (fault : ReadFault) (place : Option ReadPlace) : Type 0 where
  pub failed : fault ≢ Memory
  pub nothing : SpellsNothing SpellsModule bytes
  pub placed : IsPlaced bytes fault place

-- one that is read is none
pub record IsUnread (main : MainModule) (modules : List CoreModuleView) (position : ℕ) (fault : ReadFault) (place : Option ReadPlace) : Type 0 where
  pub core : CoreModuleView
  pub is_at : slice_get modules position ≡ Some core
  pub is_read : IsUntold main position core ⊎ IsAsked main modules position
  pub is_bad : IsBadModule core.bytes fault place
