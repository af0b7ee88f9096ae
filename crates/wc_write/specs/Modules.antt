-- The text of a module: its sections in order, without those that have no items, each number as minimal LEB128
-- (WebAssembly core specification, 5.5).
use Rattle.std.specs.Prelude.{◌≡◌, ℕ, List, [], ◌∷◌, ◌++◌, length, map, Option, Some, None, IfSome, All, Result, Ok, Err}
use Rattle.std.specs.List.{flat_map}
use Rattle.std.specs.Option.{option_map}
use Rattle.wc_read.specs.Types.{FuncTypeValue, func_type_value}
use Rattle.wc_read.specs.Imports.{ImportValue}
use Rattle.wc_read.specs.Exports.{ExportValue, export_value, export_kind_code}
use Rattle.wc_read.specs.Operators.{InstrValue}
use Rattle.wc_read.specs.Bodies.{BodyValue, body_value}
use Rattle.wc_read.specs.Inits.{init_value}
use Rattle.wc_read.specs.Items.{ItemValue, item_value, TableValue, table_value, MemoryValue, memory_value}
use Rattle.wc_read.specs.Producers.{producers_text}
use Rattle.wc_read.specs.Contents.{func_type_code}
use Rattle.wc_read.specs.Sections.{module_header, custom_id, type_id, import_id, function_id, table_id, memory_id, global_id, export_id, start_id, code_id}
use Rattle.wc_read.specs.declared.bodies.Body.{Body}
use Rattle.wc_read.specs.declared.inits.Init.{Init}
use Rattle.wc_read.specs.declared.types.GlobalType.{GlobalType}
use Rattle.wc_read.specs.declared.types.ImportType.TheVariants.{Func, Table, Memory, Global}
use Rattle.wc_write.specs.Text.{number_text, vector_text, name_text, val_type_text, table_text, memory_text, global_text, import_text, FitsSize, section_text}
use Rattle.wc_write.specs.Operators.{instr_text}
use Rattle.wc_write.specs.Bodies.{body_text}
use Rattle.wc_write.specs.Spaces.{imports_of, DefinedValue, defined, defined_types, defined_contents, defined_value}
use Rattle.wc_write.specs.declared.fault.WriteFault.{WriteFault}
use Rattle.wc_write.specs.declared.fault.WriteFault.TheVariants.{TooLarge}
use Rattle.wc_write.specs.declared.modules.Built.{Built}
use Rattle.wc_write.specs.declared.spaces.Defined.{Defined}

-- a module to be written: bodies and initialisers as their operators
pub record BuiltValue : Type 0 where
  pub types : List FuncTypeValue
  pub funcs : List (ItemValue ℕ BodyValue)
  pub tables : List TableValue
  pub memories : List MemoryValue
  pub globals : List (ItemValue GlobalType (List InstrValue))
  pub exports : List ExportValue
  pub start : Option ℕ
  pub producers : Option (List ℕ)

-- bodies and initialisers are seen by views
abbrev pub built_value_by : {C I : Type 0} → (C → BodyValue) → (I → List InstrValue) → Built C I → BuiltValue
built_value_by view init b = record {
  types = map func_type_value b.types.items;
  funcs = map (item_value view) b.funcs.items;
  tables = map table_value b.tables.items;
  memories = map memory_value b.memories.items;
  globals = map (item_value init) b.globals.items;
  exports = map export_value b.exports.items;
  start = b.start;
  producers = option_map (λ b. b.now) b.producers;
}

abbrev pub built_value : Built Body Init → BuiltValue
built_value b = built_value_by body_value init_value b

-- the imports of a built module: memories, tables, globals and functions, each group in the order of its index space
abbrev pub built_imports : BuiltValue → List ImportValue
built_imports b =
    imports_of Memory b.memories
    ++ (imports_of Table b.tables ++ (imports_of Global b.globals ++ imports_of Func b.funcs))

-- the texts of items

-- a function type (5.3.6): its byte, parameters, results
abbrev pub func_type_text : FuncTypeValue → List ℕ
func_type_text f = func_type_code ∷ (vector_text val_type_text f.params ++ vector_text val_type_text f.results)

-- an export (5.5.10): its name, the byte of its kind, its index
abbrev pub export_text : ExportValue → List ℕ
export_text e = name_text e.name ++ (export_kind_code e.kind ∷ number_text e.index)

-- operators, one after another: an initialiser (5.4.9) with its `end`, or code of a body
abbrev pub operators_text : List InstrValue → List ℕ
operators_text operators = flat_map instr_text operators

-- a defined global (5.5.9): its type, and its initialiser
abbrev pub defined_global_text : DefinedValue GlobalType (List InstrValue) → List ℕ
defined_global_text g = global_text g.ty ++ operators_text g.content

-- that of a global by a view of its content
abbrev pub global_text_of : {I : Type 0} → (I → List InstrValue) → Defined GlobalType I → List ℕ
global_text_of init g = defined_global_text (defined_value init g)

-- a function's code (5.5.13): its body's size, its body
abbrev pub code_text : BodyValue → List ℕ
code_text b = number_text (length (body_text b)) ++ body_text b

-- the code of a defined function
abbrev pub code_text_of : {C : Type 0} → (C → BodyValue) → Defined ℕ C → List ℕ
code_text_of view f = code_text (view f.content.now)

-- the contents of sections, where there are any

-- a vector of items, where there are any
abbrev pub items_content : {A : Type 0} → (A → List ℕ) → List A → Option (List ℕ)
items_content text [] = None
items_content text (x ∷ xs) = Some (vector_text text (x ∷ xs))

-- the name `producers`, and bytes unchanged after it (5.5.3)
abbrev pub producers_content : List ℕ → List ℕ
producers_content bytes = name_text producers_text ++ bytes

-- a section by its id, and its content, where it has one
pub record OptionalSection : Type 0 where
  pub id : ℕ
  pub content : Option (List ℕ)

-- the sections of a module (5.5.4 to 5.5.13), by their ids

abbrev pub type_section : List FuncTypeValue → OptionalSection
type_section types = record { id = type_id; content = items_content func_type_text types }

abbrev pub import_section : List ImportValue → OptionalSection
import_section imports = record { id = import_id; content = items_content import_text imports }

-- of functions, tables, memories and globals the defined ones

abbrev pub func_section : List (ItemValue ℕ BodyValue) → OptionalSection
func_section funcs = record { id = function_id; content = items_content number_text (defined_types funcs) }

abbrev pub table_section : List TableValue → OptionalSection
table_section tables = record { id = table_id; content = items_content table_text (defined_types tables) }

abbrev pub memory_section : List MemoryValue → OptionalSection
memory_section memories = record { id = memory_id; content = items_content memory_text (defined_types memories) }

abbrev pub global_section : List (ItemValue GlobalType (List InstrValue)) → OptionalSection
global_section globals = record { id = global_id; content = items_content defined_global_text (defined globals) }

abbrev pub export_section : List ExportValue → OptionalSection
export_section exports = record { id = export_id; content = items_content export_text exports }

abbrev pub start_section : Option ℕ → OptionalSection
start_section start = record { id = start_id; content = option_map number_text start }

abbrev pub code_section : List (ItemValue ℕ BodyValue) → OptionalSection
code_section funcs = record { id = code_id; content = items_content code_text (defined_contents funcs) }

abbrev pub producers_section : Option (List ℕ) → OptionalSection
producers_section producers = record { id = custom_id; content = option_map producers_content producers }

-- the sections of a module in their order, the custom section of producers last
unfoldable pub optional_sections : BuiltValue → List OptionalSection
optional_sections b =
    type_section b.types
    ∷ import_section (built_imports b)
    ∷ func_section b.funcs
    ∷ table_section b.tables
    ∷ memory_section b.memories
    ∷ global_section b.globals
    ∷ export_section b.exports
    ∷ start_section b.start
    ∷ code_section b.funcs
    ∷ producers_section b.producers
    ∷ []

-- a section's text, no bytes where it has no content
abbrev pub content_text : ℕ → Option (List ℕ) → List ℕ
content_text id None = []
content_text id (Some content) = section_text id content

abbrev pub optional_section_text : OptionalSection → List ℕ
optional_section_text p = content_text p.id p.content

-- the text of all sections
abbrev pub sections_text : BuiltValue → List ℕ
sections_text b = flat_map optional_section_text (optional_sections b)

-- the header, and the sections
unfoldable pub built_text : BuiltValue → List ℕ
built_text b = module_header ++ sections_text b

-- contents whose sizes are numbers of 32 bits; counts, names and bodies are no longer than the contents that they are
-- in
abbrev pub SizeFits : Option (List ℕ) → Type 0
SizeFits content = IfSome content FitsSize

abbrev pub SizesFit : BuiltValue → Type 0
SizesFit b = All (λ p. SizeFits p.content) (optional_sections b)

-- what private writers do: a section is appended, where it has a content, or its content is too large for a size
abbrev pub AppendsSection : {A : Type 0} → Result A WriteFault → List ℕ → List ℕ → OptionalSection → Type 0
AppendsSection (Ok x) old new section = (new ≡ old ++ optional_section_text section) × SizeFits section.content
AppendsSection (Err e) old new section = e ≡ TooLarge → ¬ (SizeFits section.content)

abbrev pub AppendsContent : {A : Type 0} → Result A WriteFault → List ℕ → List ℕ → ℕ → Option (List ℕ) → Type 0
AppendsContent result old new id content = AppendsSection result old new (record { id = id; content = content })
