-- The sections of a module, one after another.
use Rattle.std.proofs.Common.{◌≡◌, ℕ, List, ◌++◌, None, arith, append_assoc, append-nil}
use Rattle.std.specs.List.{flat_map}
use Rattle.std.proofs.lemmas.List.Elements.{All-from_recursion}
use Rattle.std.specs.Option.{option_map}
use Rattle.wc_write.specs.Text.{number_text, table_text, memory_text, import_text}
use Rattle.wc_write.specs.Spaces.{defined, defined_types, defined_contents}
use Rattle.wc_write.specs.Modules.{BuiltValue, built_imports, func_type_text, export_text, defined_global_text, code_text, items_content, producers_content, OptionalSection, optional_sections, content_text, optional_section_text, SizeFits, SizesFit}

pub sections_written : (b : BuiltValue) (o0 o1 o2 o3 o4 o5 o6 o7 o8 o9 o10 : List ℕ) → o1 ≡ o0 ++ content_text 1 (items_content func_type_text b.types) → o2 ≡ o1 ++ content_text 2 (items_content import_text (built_imports b)) → o3 ≡ o2 ++ content_text 3 (items_content number_text (defined_types b.funcs)) → o4 ≡ o3 ++ content_text 4 (items_content table_text (defined_types b.tables)) → o5 ≡ o4 ++ content_text 5 (items_content memory_text (defined_types b.memories)) → o6 ≡ o5 ++ content_text 6 (items_content defined_global_text (defined b.globals)) → o7 ≡ o6 ++ content_text 7 (items_content export_text b.exports) → o8 ≡ o7 ++ content_text 8 (option_map number_text b.start) → o9 ≡ o8 ++ content_text 10 (items_content code_text (defined_contents b.funcs)) → o10 ≡ o9 ++ content_text 0 (option_map producers_content b.producers) → o10 ≡ o0 ++ flat_map optional_section_text (optional_sections b)
unfolding optional_sections
sections_written b o0 o1 o2 o3 o4 o5 o6 o7 o8 o9 o10 e1 e2 e3 e4 e5 e6 e7 e8 e9 e10 =
    rw (e10, e9, e8, e7, e6, e5, e4, e3, e2, e1) (simp (append_assoc, append-nil))

pub record SectionSizes (b : BuiltValue) : Type 0 where
  pub types : SizeFits (items_content func_type_text b.types)
  pub imports : SizeFits (items_content import_text (built_imports b))
  pub func_types : SizeFits (items_content number_text (defined_types b.funcs))
  pub tables : SizeFits (items_content table_text (defined_types b.tables))
  pub memories : SizeFits (items_content memory_text (defined_types b.memories))
  pub globals : SizeFits (items_content defined_global_text (defined b.globals))
  pub exports : SizeFits (items_content export_text b.exports)
  pub start : SizeFits (option_map number_text b.start)
  pub code : SizeFits (items_content code_text (defined_contents b.funcs))
  pub producers : SizeFits (option_map producers_content b.producers)

abbrev none : OptionalSection
none = record { id = 0; content = None }

pub each_size_fits : (b : BuiltValue) → SizesFit b → SectionSizes b
unfolding optional_sections
each_size_fits b h = record {
  types = h 0 none (omega arith);
  imports = h 1 none (omega arith);
  func_types = h 2 none (omega arith);
  tables = h 3 none (omega arith);
  memories = h 4 none (omega arith);
  globals = h 5 none (omega arith);
  exports = h 6 none (omega arith);
  start = h 7 none (omega arith);
  code = h 8 none (omega arith);
  producers = h 9 none (omega arith);
}

abbrev IsSmall : OptionalSection → Type 0
IsSmall p = SizeFits p.content

pub all_sizes_fit : (b : BuiltValue) → SectionSizes b → SizesFit b
unfolding optional_sections
all_sizes_fit b h = All-from_recursion IsSmall (optional_sections b) (h.types, (h.imports, (h.func_types, (h.tables, (h.memories, (h.globals, (h.exports, (h.start, (h.code, (h.producers, (tt)))))))))))
