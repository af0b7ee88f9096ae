-- What is printed of a component's file, by its core modules.
use Rattle.std.specs.Prelude.{◌≡◌, ◌≢◌, ◌≤◌, ◌==◌, ◌⊎◌, ⊤, ℕ, not, List, [], ◌∷◌, ◌++◌, length, codes, decimal, Option, Some, String, string_bytes}
use Rattle.std.specs.List.{slice_get}
use Rattle.std.specs.Option.{option_map}
use Rattle.std.specs.declared.alloc.Global.{Global}
use Rattle.wc_component_file.specs.Files.{CoreModuleView, FileView, SpellsFile}
use Rattle.wc_component_file.specs.Listing.{IsListing}
use Rattle.wc_component_file.specs.Roles.{AreRoles, IsRolesRefusal}
use Rattle.wc_component_file.specs.Told.{RoleView, the_main, adapter_for, library_named, a_shim, a_fixup, another}
use Rattle.wc_component_file.specs.declared.role.RolesRefusal.TheVariants.{Unclear as roles_unclear, Unread}
use Rattle.wc_gc.specs.declared.fault.GcFault.{GcFault}
use Rattle.wc_gc.specs.declared.fault.GcFault.TheVariants.{Memory as gc_memory, MissingExport, Read}
use Rattle.wc_gc.specs.declared.trim_place.TrimPlace.{TrimPlace}
use Rattle.wc_gc.specs.declared.trim_place.TrimPlace.TheVariants.{Bytes}
use Rattle.wc_import_paths.specs.Joined.{AreJoined}
use Rattle.wc_module_ways.specs.CoreModules.{CoreGiven}
use Rattle.wc_module_ways.specs.Modules.{InputView}
use Rattle.wc_module_ways.specs.Refusals.{moved}
use Rattle.wc_module_ways.specs.declared.core_module.CoreKind.{CoreKind}
use Rattle.wc_module_ways.specs.declared.core_module.CoreKind.TheVariants.{Adapter, Library, Other}
use Rattle.wc_program.specs.Screen.{Printing, nothing, failed}
use Rattle.wc_read.specs.declared.fault.ReadFault.{ReadFault}
use Rattle.wc_read.specs.declared.place.ReadPlace.{ReadPlace}
use Rattle.wcwhy.specs.Arguments.{CommandView}
use Rattle.wcwhy.specs.CoreFile.{HasNoModule, IsFileUnread, LacksModule}
use Rattle.wcwhy.specs.Inputs.{AllowView}
use Rattle.wcwhy.specs.ModuleWays.{ArePrinted, AreRefused, IsCoreRefusal, IsMainRefusal}
use Rattle.wcwhy.specs.Warnings.{Saying, with_inside}
use Rattle.wcwhy.specs.declared.fault.WhyFault.{WhyFault}
use Rattle.wcwhy.specs.declared.fault.WhyFault.TheVariants as fault

-- a core module of this index as a part of the component
abbrev pub part_with : ℕ → CoreModuleView → List ℕ → CoreKind → CoreGiven
part_with index m name kind = record { name = name; kind = kind; bytes = m.bytes; offset = m.offset; index = index }

-- the name of a core module that has and serves none
abbrev pub core_name : ℕ → List ℕ
core_name index = codes "core-" ++ decimal index

-- by its role: the adapters for names, the libraries by their names, and the others by their indices; the main module, shims and fixups are
-- no such parts
abbrev pub parts_of : ℕ → CoreModuleView → RoleView → List CoreGiven
parts_of index m the_main = []
parts_of index m (adapter_for name) = part_with index m name Adapter ∷ []
parts_of index m (library_named name) = part_with index m name Library ∷ []
parts_of index m a_shim = []
parts_of index m a_fixup = []
parts_of index m another = part_with index m (core_name index) Other ∷ []

-- the parts of a file besides the main module, in the order of its core modules
abbrev pub ArePartsAt : FileView → List RoleView → ℕ → List CoreGiven → Type 0
ArePartsAt file roles k parts =
    (m : CoreModuleView) (r : RoleView) → slice_get file.modules k ≡ Some m → slice_get roles k ≡ Some r → parts ≡ parts_of k m r

abbrev pub AreParts : FileView → List RoleView → List CoreGiven → Type 0
AreParts file roles parts = AreJoined (length roles) (ArePartsAt file roles) parts

-- the modules that a command asks about, by the main module and the other parts
abbrev pub input_with : CommandView → CoreModuleView → List CoreGiven → InputView
input_with c main core = record {
  main = main.bytes;
  main_offset = main.offset;
  exports = c.exports;
  adapters = [];
  core = core;
  adapter_exports = [];
  is_whole = not (length c.functions == 0);
}

-- they are those of a component's file, whose main module has this index
pub record IsInputOf (c : CommandView) (file : FileView) (index : ℕ) (i : InputView) : Type 0 where
  pub roles : List RoleView
  pub are_roles : AreRoles file c.core roles
  pub is_main : slice_get roles index ≡ Some the_main
  pub main : CoreModuleView
  pub is_at : slice_get file.modules index ≡ Some main
  pub core : List CoreGiven
  pub are_parts : AreParts file roles core
  pub is : i ≡ input_with c main core

-- what is printed of a component's file: that of its modules; and what is said besides, after the warning of components inside it
pub record IsFileText (c : CommandView) (file : FileView) (allow : Option AllowView) (said : Saying) (text : List ℕ) : Type 0 where
  pub index : ℕ
  pub input : InputView
  pub is_input : IsInputOf c file index input
  pub of_modules : Saying
  pub are : ArePrinted c input allow of_modules text
  pub is_said : said ≡ with_inside file.inside of_modules

-- and of bytes
abbrev pub IsComponentText : CommandView → List ℕ → Option AllowView → Saying → List ℕ → Type 0
IsComponentText c source allow said text = (file : FileView) × SpellsFile source file × IsFileText c file allow said text

-- the core module of this index is read to tell which is which, and is no module: the place is one in the file
abbrev pub IsReadFaultAt : CommandView → FileView → ℕ → GcFault → Option TrimPlace → Type 0
IsReadFaultAt c file k f place =
    (fault : ReadFault) × (at : Option ReadPlace) × (m : CoreModuleView) × IsRolesRefusal file c.core (Unread k fault at)
    × (slice_get file.modules k ≡ Some m) × (f ≡ Read fault) × (place ≡ moved m.offset (option_map Bytes at))

-- the main module has no export of a name
abbrev pub LacksExport : CommandView → InputView → GcFault → Option TrimPlace → Option (String Global) → Type 0
LacksExport c i (MissingExport name) place near = AreRefused c i (fault.Source (MissingExport name) place near)
LacksExport c i f place near = ⊥

-- why nothing is printed of modules whose main module has this index among core modules
abbrev pub AreIndexedRefused : CommandView → InputView → ℕ → WhyFault → Type 0
AreIndexedRefused c i index (fault.Source f place near) = LacksExport c i f place near
AreIndexedRefused c i index (fault.Core k f place) = (f ≢ gc_memory) × (((k ≡ index) × IsMainRefusal i f place) ⊎ IsCoreRefusal i k f place)
AreIndexedRefused c i index f = AreRefused c i f

abbrev pub AreFileModulesRefused : CommandView → FileView → WhyFault → Type 0
AreFileModulesRefused c file f = (index : ℕ) × (i : InputView) × IsInputOf c file index i × AreIndexedRefused c i index f

-- why nothing is printed of a component's file
abbrev pub IsFileCause : CommandView → FileView → WhyFault → Type 0
IsFileCause c file (fault.Unclear listing) = IsRolesRefusal file c.core roles_unclear × IsListing file.modules (string_bytes listing)
IsFileCause c file (fault.Core k f place) = IsReadFaultAt c file k f place ⊎ AreFileModulesRefused c file (fault.Core k f place)
IsFileCause c file f = AreFileModulesRefused c file f

-- and of bytes: they can't be cut into sections; or have no core module, or none that is chosen
abbrev pub IsComponentFault : CommandView → List ℕ → WhyFault → Type 0
IsComponentFault c source (fault.File f byte) = IsFileUnread source f byte
IsComponentFault c source (fault.NoModule inside) = HasNoModule source inside
IsComponentFault c source (fault.NoSuchModule asked count) = (c.core ≡ Some asked) × LacksModule source asked count
IsComponentFault c source f = (file : FileView) × SpellsFile source file × IsFileCause c file f

-- where memory runs out, it is left open what was printed before
abbrev pub IsComponentCause : CommandView → List ℕ → (Printing → Type 0) → WhyFault → Type 0
IsComponentCause c source out fault.Memory = ⊤
IsComponentCause c source out fault.Output = out failed
IsComponentCause c source out f = IsComponentFault c source f × out nothing
