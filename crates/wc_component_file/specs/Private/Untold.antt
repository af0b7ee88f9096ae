-- Why it can't be told what a core module is.
use Rattle.std.specs.Prelude.{◌≡◌, ◌≢◌, ℕ, ⊤, List, Some}
use Rattle.std.specs.List.{slice_get}
use Rattle.wc_read.specs.declared.fault.ReadFault.{ReadFault}
use Rattle.wc_read.specs.declared.fault.ReadFault.TheVariants.{Memory as ReadMemory}
use Rattle.wc_read.specs.declared.place.ReadPlace.{ReadPlace}
use Rattle.wc_texts.specs.declared.refused.Refused.{Refused}
use Rattle.wc_component_file.specs.Files.{CoreModuleView}
use Rattle.wc_component_file.specs.Told.{IsBadModule, IsUntold}
use Rattle.wc_component_file.specs.declared.main_module.MainModule.{MainModule}
use Rattle.wc_component_file.specs.declared.role.RolesRefusal.{RolesRefusal}
use Rattle.wc_component_file.specs.declared.role.RolesRefusal.TheVariants.{Memory, NoModule, NoSuchModule, Unread, Unclear}

-- a refusal of reading the module at a position
abbrev pub IsUnreadAs : ℕ → Refused ReadFault ReadPlace → RolesRefusal → Type 0
IsUnreadAs position refused Memory = ⊤
IsUnreadAs position refused (Unread at fault place) = (at ≡ position) × (fault ≡ refused.fault) × (place ≡ refused.place) × (fault ≢ ReadMemory)
IsUnreadAs position refused NoModule = ⊥
IsUnreadAs position refused NoSuchModule = ⊥
IsUnreadAs position refused Unclear = ⊥

-- the bytes of the module at a position are none
abbrev pub IsUnreadAt : ℕ → List ℕ → RolesRefusal → Type 0
IsUnreadAt position bytes Memory = ⊤
IsUnreadAt position bytes (Unread at fault place) = (at ≡ position) × IsBadModule bytes fault place
IsUnreadAt position bytes NoModule = ⊥
IsUnreadAt position bytes NoSuchModule = ⊥
IsUnreadAt position bytes Unclear = ⊥

-- of a module at a position that has to be read
abbrev pub IsUntoldOf : MainModule → ℕ → CoreModuleView → RolesRefusal → Type 0
IsUntoldOf main position core Memory = ⊤
IsUntoldOf main position core (Unread at fault place) = (at ≡ position) × IsUntold main position core × IsBadModule core.bytes fault place
IsUntoldOf main position core NoModule = ⊥
IsUntoldOf main position core NoSuchModule = ⊥
IsUntoldOf main position core Unclear = ⊥

-- of one of some modules
abbrev pub IsUntoldIn : MainModule → List CoreModuleView → RolesRefusal → Type 0
IsUntoldIn main modules Memory = ⊤
IsUntoldIn main modules (Unread at fault place) = (core : CoreModuleView) × (slice_get modules at ≡ Some core) × IsUntold main at core × IsBadModule core.bytes fault place
IsUntoldIn main modules NoModule = ⊥
IsUntoldIn main modules NoSuchModule = ⊥
IsUntoldIn main modules Unclear = ⊥
