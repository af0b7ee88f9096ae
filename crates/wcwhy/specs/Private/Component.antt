-- What parts of a run over a component's file do.
use Rattle.std.specs.Prelude.{◌≡◌, ◌≢◌, ◌≤◌, ⊤, ℕ, Bool, true, false, List, [], ◌∷◌, length, Option, Some, None, String, string_bytes}
use Rattle.std.specs.List.{slice_get}
use Rattle.std.specs.Option.{option_map}
use Rattle.std.specs.declared.alloc.Global.{Global}
use Rattle.wc_component_file.specs.Files.{CoreModuleView, FileView}
use Rattle.wc_component_file.specs.Listing.{IsListing}
use Rattle.wc_component_file.specs.Told.{RoleView, the_main, adapter_for, library_named, a_shim, a_fixup, another}
use Rattle.wc_component_file.specs.declared.fault.FileFault.{FileFault}
use Rattle.wc_component_file.specs.declared.fault.FileFault.TheVariants.{Memory as file_memory}
use Rattle.wc_gc.specs.declared.fault.GcFault.{GcFault}
use Rattle.wc_gc.specs.declared.fault.GcFault.TheVariants.{MissingExport, Read}
use Rattle.wc_gc.specs.declared.trim_place.TrimPlace.{TrimPlace}
use Rattle.wc_gc.specs.declared.trim_place.TrimPlace.TheVariants.{Bytes}
use Rattle.wc_module_ways.specs.CoreModules.{CoreGiven}
use Rattle.wc_module_ways.specs.Modules.{InputView}
use Rattle.wc_module_ways.specs.Refusals.{moved}
use Rattle.wc_program.specs.Screen.{Printing, nothing, failed}
use Rattle.wc_read.specs.declared.fault.ReadFault.{ReadFault}
use Rattle.wc_read.specs.declared.place.ReadPlace.{ReadPlace}
use Rattle.wcwhy.specs.Arguments.{CommandView}
use Rattle.wcwhy.specs.Component.{AreIndexedRefused, IsFileCause, IsInputOf}
use Rattle.wcwhy.specs.CoreFile.{IsFileUnread}
use Rattle.wcwhy.specs.Inputs.{AllowView}
use Rattle.wcwhy.specs.ModuleWays.{ArePrinted}
use Rattle.wcwhy.specs.Private.ModuleWays.{of_core}
use Rattle.wcwhy.specs.Warnings.{Saying}
use Rattle.wcwhy.specs.declared.component.CorePart.{CorePart}
use Rattle.wcwhy.specs.declared.fault.WhyFault.{WhyFault}
use Rattle.wcwhy.specs.declared.fault.WhyFault.TheVariants as fault

-- a core module as a part
abbrev pub part_view : CorePart → CoreGiven
part_view p = record { name = string_bytes p.name; kind = p.kind; bytes = p.module.bytes.now; offset = p.module.offset; index = p.index }

-- it is the main module
abbrev pub is_main : RoleView → Bool
is_main the_main = true
is_main (adapter_for name) = false
is_main (library_named name) = false
is_main a_shim = false
is_main a_fixup = false
is_main another = false

-- that of an index is
abbrev pub IsMainAt : List RoleView → ℕ → Type 0
IsMainAt roles k = slice_get roles k ≡ Some the_main

-- the fault for a file that can't be read; and whether it is one of bytes
abbrev pub of_file : FileFault → Option ℕ → WhyFault
of_file file_memory byte = fault.Memory
of_file f byte = fault.File f byte

abbrev pub IsUnreadFault : List ℕ → WhyFault → Type 0
IsUnreadFault source fault.Memory = ⊤
IsUnreadFault source (fault.File f byte) = IsFileUnread source f byte
IsUnreadFault source f = ⊥

-- the fault for a file with these core modules, of which none has an index

abbrev pub of_missing_in : List CoreModuleView → ℕ → ℕ → WhyFault
of_missing_in [] inside asked = fault.NoModule inside
of_missing_in (m ∷ modules) inside asked = fault.NoSuchModule asked (length (m ∷ modules))

abbrev pub of_missing : FileView → ℕ → WhyFault
of_missing file asked = of_missing_in file.modules file.inside asked

-- the fault for one that is no module
abbrev pub IsReadFaultOf : FileView → ℕ → ReadFault → Option ReadPlace → WhyFault → Type 0
IsReadFaultOf file k f at result =
    (m : CoreModuleView) × (slice_get file.modules k ≡ Some m) × (result ≡ of_core k (Read f) (moved m.offset (option_map Bytes at)))

-- that for modules of which it can't be told which is which
abbrev pub IsUnclearFault : FileView → WhyFault → Type 0
IsUnclearFault file fault.Memory = ⊤
IsUnclearFault file (fault.Unclear listing) = IsListing file.modules (string_bytes listing)
IsUnclearFault file f = ⊥

-- why nothing is printed of a component's file
abbrev pub IsFileFault : CommandView → FileView → WhyFault → Type 0
IsFileFault c file fault.Memory = ⊤
IsFileFault c file (fault.NoModule inside) = (file.modules ≡ []) × (inside ≡ file.inside)
IsFileFault c file (fault.NoSuchModule asked count) =
    (c.core ≡ Some asked) × (file.modules ≢ []) × (count ≡ length file.modules) × (count ≤ asked)
IsFileFault c file f = IsFileCause c file f

abbrev pub IsFilePrintCause : CommandView → FileView → (Printing → Type 0) → WhyFault → Type 0
IsFilePrintCause c file out fault.Memory = ⊤
IsFilePrintCause c file out fault.Output = out failed
IsFilePrintCause c file out f = IsFileFault c file f × out nothing

-- what is printed of its modules; and what is said besides, but of components inside it
abbrev pub IsModulesText : CommandView → FileView → Option AllowView → Saying → List ℕ → Type 0
IsModulesText c file allow said text = (index : ℕ) × (i : InputView) × IsInputOf c file index i × ArePrinted c i allow said text

-- the fault of modules by the index of the main module

abbrev pub of_main : ℕ → GcFault → Option TrimPlace → Option (String Global) → WhyFault
of_main index (MissingExport name) place near = fault.Source (MissingExport name) place near
of_main index f place near = of_core index f place

abbrev pub of_index : ℕ → WhyFault → WhyFault
of_index index (fault.Source f place near) = of_main index f place near
of_index index f = f

abbrev pub IsIndexedCause : CommandView → InputView → ℕ → (Printing → Type 0) → WhyFault → Type 0
IsIndexedCause c i index out fault.Memory = ⊤
IsIndexedCause c i index out fault.Output = out failed
IsIndexedCause c i index out f = AreIndexedRefused c i index f × out nothing
