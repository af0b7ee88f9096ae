-- Which core module of a component is which.
use Rattle.std.specs.Prelude.{◌≡◌, ℕ, ◌<◌, ◌≤◌, Bool, true, false, not, ◌&&◌, ◌==◌, ⊤, ◌⊎◌, List, [], length, map, Option, Some, None, Contains, nat_lt}
use Rattle.std.specs.List.{filter_map, slice_get}
use Rattle.wc_maps.specs.Texts.{AreDistinct, IsFirstRepeated}
use Rattle.wc_read.specs.Modules.{ModuleValue, SpellsModule}
use Rattle.wc_component_file.specs.Files.{CoreModuleView, FileView}
use Rattle.wc_component_file.specs.MainModules.{AreTwoNamed, IsMain}
use Rattle.wc_component_file.specs.Serving.{ServesNone, ServesOnly, ServesTwo, function_pairs, without}
use Rattle.wc_component_file.specs.Told.{AreTold, EachAt, IsUnread, RoleView, ToldView, a_fixup, a_shim, adapter_for, another, candidate, candidates, known, library_named, the_main}
use Rattle.wc_component_file.specs.declared.main_module.MainModule.{MainModule}
use Rattle.wc_component_file.specs.declared.role.RolesRefusal.{RolesRefusal}
use Rattle.wc_component_file.specs.declared.role.RolesRefusal.TheVariants.{Memory, NoModule, NoSuchModule, Unread, Unclear}

-- the name that a module of a role serves
abbrev pub adapter_name : RoleView → Option (List ℕ)
adapter_name (adapter_for name) = Some name
adapter_name the_main = None
adapter_name (library_named name) = None
adapter_name a_shim = None
adapter_name a_fixup = None
adapter_name another = None

abbrev pub adapter_names : List RoleView → List (List ℕ)
adapter_names roles = filter_map adapter_name roles

-- the adapters' names that names of modules tell
abbrev pub told_name : ToldView → Option (List ℕ)
told_name (known role) = adapter_name role
told_name (candidate functions) = None

abbrev pub told_names : List ToldView → List (List ℕ)
told_names told = filter_map told_name told

-- so many candidates that all of them are not compared with a main module that imports functions
abbrev pub is_too_many : List ToldView → List (List ℕ × List ℕ) → Bool
is_too_many told functions = nat_lt 100 (candidates told) && not (length functions == 0)

-- the functions that the module at a position imports
pub record HasFunctionsAt (modules : List CoreModuleView) (position : ℕ) (functions : List (List ℕ × List ℕ)) : Type 0 where
  pub core : CoreModuleView
  pub value : ModuleValue
  pub is_at : slice_get modules position ≡ Some core
  pub spelled : SpellsModule core.bytes value
  pub has_functions : functions ≡ function_pairs value.imports

-- the functions of the main module that a candidate may serve: none of a name that has its adapter already, by a module's name
pub record IsAskedOf (main : MainModule) (modules : List CoreModuleView) (told : List ToldView) (asked : List (List ℕ × List ℕ)) : Type 0 where
  pub functions : List (List ℕ × List ℕ)
  pub has_main : HasFunctionsAt modules main.position functions
  pub few : is_too_many told functions ≡ false
  pub is : asked ≡ without (told_names told) functions

-- that is asked only where there is a candidate
abbrev pub AreAsked : MainModule → List CoreModuleView → List ToldView → List (List ℕ × List ℕ) → Type 0
AreAsked main modules told asked = 0 < candidates told → IsAskedOf main modules told asked

-- a candidate is the adapter for the only name that it serves, and is another module where it serves none
abbrev pub IsServing : List (List ℕ × List ℕ) → List (List ℕ) → RoleView → Type 0
IsServing asked functions (adapter_for name) = ServesOnly asked functions name
IsServing asked functions another = ServesNone asked functions
IsServing asked functions the_main = ⊥
IsServing asked functions (library_named name) = ⊥
IsServing asked functions a_shim = ⊥
IsServing asked functions a_fixup = ⊥

abbrev pub IsRole : List (List ℕ × List ℕ) → ToldView → RoleView → Type 0
IsRole asked (known told) role = role ≡ told
IsRole asked (candidate functions) role = IsServing asked functions role

abbrev pub AreServing : List (List ℕ × List ℕ) → List ToldView → List RoleView → Type 0
AreServing asked told roles = EachAt (λ k. IsRole asked) told roles

-- the roles of a file's core modules, of which the main one may be chosen: no two are adapters for one name
pub record AreRoles (file : FileView) (chosen : Option ℕ) (roles : List RoleView) : Type 0 where
  pub main : MainModule
  pub told : List ToldView
  pub asked : List (List ℕ × List ℕ)
  pub is_main : IsMain file.modules chosen main
  pub within : main.position < length file.modules
  pub are_told : AreTold main file.modules told
  pub are_asked : AreAsked main file.modules told asked
  pub are_serving : AreServing asked told roles
  pub distinct : AreDistinct (adapter_names roles)

-- a candidate serves two names, or two modules are adapters for one name
pub record HasServesTwo (asked : List (List ℕ × List ℕ)) (told : List ToldView) : Type 0 where
  pub functions : List (List ℕ)
  pub has : Contains told (candidate functions)
  pub two : ServesTwo asked functions

pub record AreTwins (asked : List (List ℕ × List ℕ)) (told : List ToldView) : Type 0 where
  pub roles : List RoleView
  pub name : List ℕ
  pub are_serving : AreServing asked told roles
  pub repeated : IsFirstRepeated (adapter_names roles) name

abbrev pub IsTooMany : MainModule → List CoreModuleView → List ToldView → Type 0
IsTooMany main modules told = (functions : List (List ℕ × List ℕ)) × HasFunctionsAt modules main.position functions × (is_too_many told functions ≡ true)

abbrev pub AreUnclear : MainModule → List CoreModuleView → List ToldView → Type 0
AreUnclear main modules told =
    IsTooMany main modules told ⊎ ((asked : List (List ℕ × List ℕ)) × AreAsked main modules told asked × (HasServesTwo asked told ⊎ AreTwins asked told))

-- why nothing is told of core modules, the main one of which is found
abbrev pub IsToldRefusal : MainModule → List CoreModuleView → RolesRefusal → Type 0
IsToldRefusal main modules Memory = ⊤
IsToldRefusal main modules (Unread position fault place) = IsUnread main modules position fault place
IsToldRefusal main modules Unclear = (told : List ToldView) × AreTold main modules told × AreUnclear main modules told
IsToldRefusal main modules NoModule = ⊥
IsToldRefusal main modules NoSuchModule = ⊥

-- why the main module is not found
abbrev pub IsMainRefusal : List CoreModuleView → Option ℕ → RolesRefusal → Type 0
IsMainRefusal modules chosen NoModule = modules ≡ []
IsMainRefusal modules chosen NoSuchModule = (position : ℕ) × (chosen ≡ Some position) × (length modules ≤ position)
IsMainRefusal modules chosen Unclear = (chosen ≡ None) × AreTwoNamed modules
IsMainRefusal modules chosen Memory = ⊥
IsMainRefusal modules chosen (Unread position fault place) = ⊥

-- either
abbrev pub IsRolesRefusal : FileView → Option ℕ → RolesRefusal → Type 0
IsRolesRefusal file chosen refusal =
    IsMainRefusal file.modules chosen refusal ⊎ ((main : MainModule) × IsMain file.modules chosen main × IsToldRefusal main file.modules refusal)
