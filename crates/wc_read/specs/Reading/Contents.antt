-- The contents of sections (5.3.6 and 5.5.2 to 5.5.13), read to their end.
use Rattle.std.specs.Prelude.{◌==◌, Some, ℕ, List, [], Option, None, map}
use Rattle.std.specs.Option.{option_map_or}
use Rattle.wc_read.specs.Options.{◌>>=◌}
use Rattle.wc_read.specs.Types.{FuncTypeValue, func_type_value}
use Rattle.wc_read.specs.Contents.{func_type_code}
use Rattle.wc_read.specs.Sections.{SectionValue, type_id, import_id, function_id, table_id, memory_id, global_id, export_id, start_id, code_id}
use Rattle.wc_read.specs.Order.{content_of}
use Rattle.wc_read.specs.Imports.{import_value}
use Rattle.wc_read.specs.Exports.{export_value}
use Rattle.wc_read.specs.SectionContents.{SectionContentsValue}
use Rattle.wc_read.specs.Reading.Reader.{Read, byte_at, where_at, vector_at, bytes_at, number_at, read_all}
use Rattle.wc_read.specs.Reading.Types.{val_type_at}
use Rattle.wc_read.specs.Reading.Globals.{local_global_value, local_global_at}
use Rattle.wc_read.specs.Reading.Imports.{import_at}
use Rattle.wc_read.specs.Reading.Limits.{table_at, memory_at}
use Rattle.wc_read.specs.Reading.Exports.{export_at}
use Rattle.wc_read.specs.declared.section_contents.SectionContents.{SectionContents}

unfoldable pub func_type_at : Read FuncTypeValue
func_type_at bytes = do
  form ← where_at (λ b. b == func_type_code) byte_at bytes
  params ← vector_at val_type_at form.1
  results ← vector_at val_type_at params.1
  Some (record { params = params.0; results = results.0 }, results.1)

-- bytes after their size
unfoldable pub size_prefixed_at : Read (List ℕ)
size_prefixed_at bytes = do
  size ← number_at 32 bytes
  bytes_at size.0 size.1

-- the items of the section with an id, none where there is no such section
unfoldable pub items_in : {A : Type 0} → ℕ → Read A → List SectionValue → Option (List A)
items_in id read sections = option_map_or (λ content. read_all (vector_at read) content) (content_of id sections) (Some [])

-- what the section with an id holds, if there is such a section
unfoldable pub content_in : {A : Type 0} → ℕ → Read A → List SectionValue → Option (Option A)
content_in id read sections = option_map_or (λ content. read_all read content >>= λ x. Some (Some x)) (content_of id sections) (Some None)

abbrev pub section_contents_value : SectionContents → SectionContentsValue
section_contents_value p = record {
  types = map func_type_value p.types.items;
  imports = map import_value p.imports.items;
  func_types = p.func_types.items;
  tables = p.tables.items;
  memories = p.memories.items;
  globals = map local_global_value p.globals.items;
  exports = map export_value p.exports.items;
  start = p.start;
  bodies = map (λ b. b.now) p.bodies.items;
}

unfoldable pub section_contents_in : List SectionValue → Option SectionContentsValue
section_contents_in sections = do
  types ← items_in type_id func_type_at sections
  imports ← items_in import_id import_at sections
  func_types ← items_in function_id (number_at 32) sections
  tables ← items_in table_id table_at sections
  memories ← items_in memory_id memory_at sections
  globals ← items_in global_id local_global_at sections
  exports ← items_in export_id export_at sections
  start ← content_in start_id (number_at 32) sections
  bodies ← items_in code_id size_prefixed_at sections
  Some (record { types = types; imports = imports; func_types = func_types; tables = tables; memories = memories; globals = globals; exports = exports; start = start; bodies = bodies })
