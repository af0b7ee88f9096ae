-- The roles of modules, with the main module found.
use Rattle.std.specs.Prelude.{◌≡◌, ℕ, Bool, true, false, ⊤, ◌⊎◌, ◌<◌, List, Option, Some}
use Rattle.std.specs.List.{slice_get}
use Rattle.wc_maps.specs.Texts.{AreDistinct, IsFirstRepeated}
use Rattle.wc_read.specs.declared.fault.ReadFault.{ReadFault}
use Rattle.wc_read.specs.declared.place.ReadPlace.{ReadPlace}
use Rattle.wc_component_file.specs.Files.{CoreModuleView}
use Rattle.wc_component_file.specs.Roles.{AreAsked, AreServing, AreTwins, HasServesTwo, IsTooMany, adapter_names}
use Rattle.wc_component_file.specs.Serving.{ServesTwo}
use Rattle.wc_component_file.specs.Told.{AreTold, IsBadModule, RoleView, ToldView, candidate, candidates}
use Rattle.wc_component_file.specs.declared.main_module.MainModule.{MainModule}
use Rattle.wc_component_file.specs.declared.role.RolesRefusal.{RolesRefusal}
use Rattle.wc_component_file.specs.declared.role.RolesRefusal.TheVariants.{Memory, NoModule, NoSuchModule, Unread, Unclear}

-- the bytes of the module at a position are none
pub record IsBadAt (modules : List CoreModuleView) (position at : ℕ) (fault : ReadFault) (place : Option ReadPlace) : Type 0 where
  pub is : at ≡ position
  pub core : CoreModuleView
  pub is_at : slice_get modules position ≡ Some core
  pub is_bad : IsBadModule core.bytes fault place

abbrev pub IsUnreadIn : List CoreModuleView → ℕ → RolesRefusal → Type 0
IsUnreadIn modules position Memory = ⊤
IsUnreadIn modules position (Unread at fault place) = IsBadAt modules position at fault place
IsUnreadIn modules position NoModule = ⊥
IsUnreadIn modules position NoSuchModule = ⊥
IsUnreadIn modules position Unclear = ⊥

-- so of the main module, which is read where there is a candidate; or there are too many candidates
abbrev pub IsAskedRefusal : MainModule → List CoreModuleView → List ToldView → RolesRefusal → Type 0
IsAskedRefusal main modules told Memory = ⊤
IsAskedRefusal main modules told (Unread at fault place) = (0 < candidates told) × IsBadAt modules main.position at fault place
IsAskedRefusal main modules told Unclear = IsTooMany main modules told
IsAskedRefusal main modules told NoModule = ⊥
IsAskedRefusal main modules told NoSuchModule = ⊥

-- a candidate serves two names
abbrev pub IsRoleRefusal : List (List ℕ × List ℕ) → ToldView → RolesRefusal → Type 0
IsRoleRefusal asked told Memory = ⊤
IsRoleRefusal asked told Unclear = (functions : List (List ℕ)) × (told ≡ candidate functions) × ServesTwo asked functions
IsRoleRefusal asked told NoModule = ⊥
IsRoleRefusal asked told NoSuchModule = ⊥
IsRoleRefusal asked told (Unread position fault place) = ⊥

abbrev pub IsServingRefusalIn : List (List ℕ × List ℕ) → List ToldView → RolesRefusal → Type 0
IsServingRefusalIn asked told Memory = ⊤
IsServingRefusalIn asked told Unclear = HasServesTwo asked told
IsServingRefusalIn asked told NoModule = ⊥
IsServingRefusalIn asked told NoSuchModule = ⊥
IsServingRefusalIn asked told (Unread position fault place) = ⊥

-- or two modules are adapters for one name
abbrev pub IsServedRefusal : List (List ℕ × List ℕ) → List ToldView → RolesRefusal → Type 0
IsServedRefusal asked told Memory = ⊤
IsServedRefusal asked told Unclear = HasServesTwo asked told ⊎ AreTwins asked told
IsServedRefusal asked told NoModule = ⊥
IsServedRefusal asked told NoSuchModule = ⊥
IsServedRefusal asked told (Unread position fault place) = ⊥

-- whether one of these names is there twice
abbrev pub HasRepeated : List (List ℕ) → Bool → Type 0
HasRepeated names true = (name : List ℕ) × IsFirstRepeated names name
HasRepeated names false = AreDistinct names

-- roles, no two of which are those of adapters for one name
pub record AreServed (asked : List (List ℕ × List ℕ)) (told : List ToldView) (roles : List RoleView) : Type 0 where
  pub are_serving : AreServing asked told roles
  pub distinct : AreDistinct (adapter_names roles)

pub record AreRolesOf (main : MainModule) (modules : List CoreModuleView) (roles : List RoleView) : Type 0 where
  pub told : List ToldView
  pub asked : List (List ℕ × List ℕ)
  pub are_told : AreTold main modules told
  pub are_asked : AreAsked main modules told asked
  pub are_served : AreServed asked told roles
