-- Modules (WebAssembly core specification, 2.5, 3.4 and 5.5).
use Rattle.std.specs.Prelude.{◌≡◌, ◌≢◌, ℕ, ◌<◌, ◌^◌, List, [], length, map, Bool, ◌||◌, ◌==◌, Option, Some, IfSome, All, AllPairs}
use Rattle.std.specs.List.{slice_get, filter}
use Rattle.std.specs.Option.{option_map}
use Rattle.wc_read.specs.Names.{GlobalNameValue, NamesOf, global_names_of, name_entries}
use Rattle.wc_read.specs.Producers.{LastProducers}
use Rattle.wc_read.specs.Types.{FuncTypeValue, HasTypeIndex, HaveTypeIndices, func_type_value}
use Rattle.wc_read.specs.Imports.{ImportValue, import_value}
use Rattle.wc_read.specs.Exports.{ExportValue, export_value}
use Rattle.wc_read.specs.Items.{FuncValue, TableValue, MemoryValue, GlobalValue, func_value, table_value, memory_value, global_value}
use Rattle.wc_read.specs.InitTypes.{AreTyped}
use Rattle.wc_read.specs.Sections.{SectionValue, element_id, data_id, data_count_id, SpellsFrames}
use Rattle.wc_read.specs.Order.{AreInOrder}
use Rattle.wc_read.specs.SectionContents.{SectionContentsValue, HaveSectionContents}
use Rattle.wc_read.specs.Spaces.{table_of, memory_of, func_space, declared_space, global_space}
use Rattle.wc_read.specs.declared.exports.ExportKind.{ExportKind}
use Rattle.wc_read.specs.declared.exports.ExportKind.TheVariants.{Func, Table, Memory, Global}
use Rattle.wc_read.specs.declared.core_module.Module.{Module}

-- a module: its types; its imports in the order of the file; four index spaces, of imported items and then defined ones;
-- exports; the function that starts it; names of globals by their indices; the bytes of its producers; and the ids of
-- the sections of segments that it has, in their order. Bodies and initialisers are bytes
pub record ModuleValue : Type 0 where
  pub types : List FuncTypeValue
  pub imports : List ImportValue
  pub funcs : List FuncValue
  pub tables : List TableValue
  pub memories : List MemoryValue
  pub globals : List GlobalValue
  pub exports : List ExportValue
  pub start : Option ℕ
  pub global_names : List GlobalNameValue
  pub producers : Option (List ℕ)
  pub ids : List ℕ

abbrev pub module_value : Module → ModuleValue
module_value m = record {
  types = map func_type_value m.types.items;
  imports = map import_value m.imports.items;
  funcs = map func_value m.funcs.items;
  tables = map table_value m.tables.items;
  memories = map memory_value m.memories.items;
  globals = map global_value m.globals.items;
  exports = map export_value m.exports.items;
  start = m.start;
  global_names = name_entries m.global_names;
  producers = option_map (λ b. b.now) m.producers;
  ids = m.ids.items;
}

-- what holds of a module besides (3.4)

-- how many items the space of a kind has
abbrev pub count_of : ModuleValue → ExportKind → ℕ
count_of m Func = length m.funcs
count_of m Table = length m.tables
count_of m Memory = length m.memories
count_of m Global = length m.globals

-- functions have types of the module
abbrev pub HaveTypes : ModuleValue → Type 0
HaveTypes m = All (λ f. f.ty < length m.types) m.funcs

-- the indices of types in types, tables and globals are those of types of the module
pub record NameTypes (m : ModuleValue) : Type 0 where
  pub types : All (HaveTypeIndices (length m.types)) m.types
  pub tables : All (λ t. HasTypeIndex (length m.types) t.ty.element_type) m.tables
  pub globals : All (λ g. HasTypeIndex (length m.types) g.ty.content_type) m.globals

-- a function of the module that has no parameters and no results
pub record IsStart (m : ModuleValue) (index : ℕ) : Type 0 where
  pub func : FuncValue
  pub ty : FuncTypeValue
  pub is_func : slice_get m.funcs index ≡ Some func
  pub is_type : slice_get m.types func.ty ≡ Some ty
  pub no_params : ty.params ≡ []
  pub no_results : ty.results ≡ []

-- no space has 2 ^ 32 items
pub record CountsFitU32 (m : ModuleValue) : Type 0 where
  pub funcs : length m.funcs < 2 ^ 32
  pub tables : length m.tables < 2 ^ 32
  pub memories : length m.memories < 2 ^ 32
  pub globals : length m.globals < 2 ^ 32

-- functions have types of the module; types, tables and globals name no others; exports name items of it, no two by one name;
-- the start function has no parameters and no results; an initialiser leaves one value, of the class of its global's type
pub record IsModule (m : ModuleValue) : Type 0 where
  pub typed : HaveTypes m
  pub named : NameTypes m
  pub exported : All (λ e. e.index < count_of m e.kind) m.exports
  pub distinct : AllPairs (λ x y. x ≢ y) (map (λ e. e.name) m.exports)
  pub started : IfSome m.start (IsStart m)
  pub initialised : AreTyped (length m.types) (length m.funcs) m.globals
  pub bounded : CountsFitU32 m

-- the sections whose contents are not read
abbrev pub is_segments : ℕ → Bool
is_segments id = id == element_id || id == data_id || id == data_count_id

-- what custom sections say
pub record CustomValue : Type 0 where
  pub global_names : List GlobalNameValue
  pub producers : Option (List ℕ)

-- the names that name sections give, a later one for an index in the place of an earlier one, and the last producers
-- section that reads
pub record HasCustom (sections : List SectionValue) (c : CustomValue) : Type 0 where
  pub pairs : List GlobalNameValue
  pub has_pairs : NamesOf sections pairs
  pub has_names : c.global_names ≡ global_names_of pairs
  pub has_producers : LastProducers sections c.producers

-- a module of the contents of its sections
abbrev pub module_of : List SectionValue → SectionContentsValue → CustomValue → ModuleValue
module_of sections p c = record {
  types = p.types;
  imports = p.imports;
  funcs = func_space p.imports p.func_types p.bodies;
  tables = declared_space table_of p.imports p.tables;
  memories = declared_space memory_of p.imports p.memories;
  globals = global_space p.imports p.globals;
  exports = p.exports;
  start = p.start;
  global_names = c.global_names;
  producers = c.producers;
  ids = filter is_segments (map (λ s. s.id) sections);
}

-- the module that sections with these contents make
pub record IsAssembled (sections : List SectionValue) (p : SectionContentsValue) (m : ModuleValue) : Type 0 where
  pub custom : CustomValue
  pub has_custom : HasCustom sections custom
  pub is : m ≡ module_of sections p custom

-- there are as many bodies as functions of the module's own
abbrev pub ArePaired : SectionContentsValue → Type 0
ArePaired p = length p.func_types ≡ length p.bodies

-- sections that make a module
pub record AreModule (sections : List SectionValue) (m : ModuleValue) : Type 0 where
  pub ordered : AreInOrder sections
  pub parts : SectionContentsValue
  pub has_contents : HaveSectionContents sections parts
  pub as_many : ArePaired parts
  pub assembled : IsAssembled sections parts m
  pub valid : IsModule m

-- a module's bytes: its frames, and what they hold
pub record SpellsModule (bytes : List ℕ) (m : ModuleValue) : Type 0 where
  pub sections : List SectionValue
  pub has_frames : SpellsFrames bytes sections
  pub has_sections : AreModule sections m
