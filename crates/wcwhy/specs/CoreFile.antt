-- A core module of a component, which is written to a file.
use Rattle.std.specs.Prelude.{◌≡◌, ◌≢◌, ◌≤◌, ◌⊎◌, ⊤, ℕ, List, [], length, Option, Some, None}
use Rattle.std.specs.List.{slice_get}
use Rattle.wc_component_file.specs.Files.{CoreModuleView, FileView, SpellsFile}
use Rattle.wc_component_file.specs.Refusals.{IsFaultAt}
use Rattle.wc_component_file.specs.declared.fault.FileFault.{FileFault}
use Rattle.wc_component_file.specs.declared.fault.FileFault.TheVariants.{Memory as file_memory}
use Rattle.wc_program.specs.Files.{FileChange, Held, KeepsOthers, Writes}
use Rattle.wc_program.specs.declared.files.FileProblem.{FileProblem}
use Rattle.wcwhy.specs.Arguments.{CommandView}
use Rattle.wcwhy.specs.Inputs.{IsSource, IsSourceCause}
use Rattle.wcwhy.specs.declared.fault.WhyFault.{WhyFault}
use Rattle.wcwhy.specs.declared.fault.WhyFault.TheVariants.{Memory, File, NoModule, NoSuchModule, CannotWrite}

-- the index of a core module that a command writes, and the path of its file: a command gives both
abbrev pub target_of : Option ℕ → Option (List ℕ) → Option (ℕ × List ℕ)
target_of (Some index) (Some path) = Some (index, path)
target_of core out = None

-- a component's core module of an index has these bytes
pub record HasBytes (source : List ℕ) (index : ℕ) (bytes : List ℕ) : Type 0 where
  pub file : FileView
  pub spelled : SpellsFile source file
  pub core : CoreModuleView
  pub is_core : slice_get file.modules index ≡ Some core
  pub is : bytes ≡ core.bytes

-- the file of the path has the bytes of the core module, and each other file the bytes that it had
pub record IsCoreWritten (c : CommandView) (t : ℕ × List ℕ) (before after : Option Held) : Type 0 where
  pub source : List ℕ
  pub is_source : IsSource c before source
  pub bytes : List ℕ
  pub has_bytes : HasBytes source t.0 bytes
  pub written : Writes before after t.1 bytes

-- the file could not be written, and each other file has the bytes that it had
pub record IsCoreUnwritten (c : CommandView) (t : ℕ × List ℕ) (files : FileChange) (p : FileProblem) : Type 0 where
  pub source : List ℕ
  pub is_source : IsSource c files.before source
  pub bytes : List ℕ
  pub has_bytes : HasBytes source t.0 bytes
  pub failed : files.IsFailedWrite t.1 bytes p
  pub others : KeepsOthers files.before files.after t.1

-- bytes can't be read as a component's file
abbrev pub IsFileUnread : List ℕ → FileFault → Option ℕ → Type 0
IsFileUnread source f byte = (f ≢ file_memory) × IsFaultAt source f byte

-- a component has no core module, and so many components inside it have some
abbrev pub HasNoModule : List ℕ → ℕ → Type 0
HasNoModule source inside = (file : FileView) × SpellsFile source file × (file.modules ≡ []) × (inside ≡ file.inside)

-- it has core modules, so many, and none of this index
abbrev pub LacksModule : List ℕ → ℕ → ℕ → Type 0
LacksModule source index count =
    (file : FileView) × SpellsFile source file × (file.modules ≢ []) × (count ≡ length file.modules) × (count ≤ index)

-- why a component does not have the core module of an index
abbrev pub LacksBytes : List ℕ → ℕ → WhyFault → Type 0
LacksBytes source index Memory = ⊤
LacksBytes source index (File f byte) = IsFileUnread source f byte
LacksBytes source index (NoModule inside) = HasNoModule source inside
LacksBytes source index (NoSuchModule asked count) = (asked ≡ index) × LacksModule source index count
LacksBytes source index f = ⊥

-- why no file is written, and each has the bytes that it had: the component is not there, or does not have the core module
abbrev pub HasNoBytes : CommandView → ℕ → FileChange → WhyFault → Type 0
HasNoBytes c index files f = (source : List ℕ) × IsSource c files.before source × LacksBytes source index f

abbrev pub IsCoreCause : CommandView → ℕ × List ℕ → FileChange → WhyFault → Type 0
IsCoreCause c t files (CannotWrite path p) = (path.now ≡ t.1) × IsCoreUnwritten c t files p
IsCoreCause c t files f = (files.after ≡ files.before) × (IsSourceCause c files f ⊎ HasNoBytes c t.0 files f)
