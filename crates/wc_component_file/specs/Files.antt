-- A component's file by its core modules.
use Rattle.std.specs.Prelude.{◌≡◌, ℕ, List, map, Option}
use Rattle.std.specs.List.{filter, enumerate_from}
use Rattle.std.specs.Option.{option_map}
use Rattle.wc_read.specs.Names.{GlobalNameValue}
use Rattle.wc_component_file.specs.Frames.{FrameValue, SpellsComponent, is_core_module}
use Rattle.wc_component_file.specs.Inside.{Counts, IsInside}
use Rattle.wc_component_file.specs.Names.{AllNames, last_name}
use Rattle.wc_component_file.specs.declared.file.CoreModule.{CoreModule}
use Rattle.wc_component_file.specs.declared.file.ComponentFile.{ComponentFile}

-- a core module: where it begins in the file, its bytes, its name
pub record CoreModuleView : Type 0 where
  pub offset : ℕ
  pub bytes : List ℕ
  pub name : Option (List ℕ)

-- a file: its core modules, and how many components inside it have some
pub record FileView : Type 0 where
  pub modules : List CoreModuleView
  pub inside : ℕ

abbrev pub core_module_view : CoreModule → CoreModuleView
core_module_view m = record { offset = m.offset; bytes = m.bytes.now; name = option_map (λ n. n.now) m.name }

abbrev pub file_view : ComponentFile → FileView
file_view f = record { modules = map core_module_view f.modules.items; inside = f.inside }

-- a section that is the core module of this index: its content, with the last name that pairs give the index
abbrev pub module_of : List GlobalNameValue → ℕ × FrameValue → CoreModuleView
module_of pairs m = record { offset = m.1.offset; bytes = m.1.section.content; name = last_name pairs m.0 }

-- the core modules among sections, in order
abbrev pub modules_of : List GlobalNameValue → List FrameValue → List CoreModuleView
modules_of pairs fs = map (module_of pairs) (enumerate_from 0 (filter is_core_module fs))

-- the bytes are a component with these core modules
pub record SpellsFile (bytes : List ℕ) (file : FileView) : Type 0 where
  pub fs : List FrameValue
  pub pairs : List GlobalNameValue
  pub has_frames : SpellsComponent bytes fs
  pub has_names : AllNames fs pairs
  pub has_modules : file.modules ≡ modules_of pairs fs
  pub counts : Counts IsInside fs file.inside
