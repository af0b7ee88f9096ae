-- No spelling is shorter than the text.
use Rattle.std.proofs.Common.{ℕ, ◌≤◌, List, [], ◌∷◌, ◌++◌, length, Bool, Option, Some, None, arith}
use Rattle.std.specs.List.{flat_map}
use Rattle.std.proofs.lemmas.List.{length-append}
use Rattle.wc_read.specs.Formats.{SpellsNumber, SpellsOptional, SpellsName, SpellsItems}
use Rattle.wc_read.specs.Types.{mutable_code, SpellsGlobal}
use Rattle.wc_read.specs.Limits.{flags_code, table_flags, memory_flags, bound_bits, SpellsBounds, SpellsTable, SpellsMemory}
use Rattle.wc_read.specs.Imports.{ImportValue, SpellsImportType, SpellsImport, SpellsImports}
use Rattle.wc_read.specs.Sections.{SectionValue, SpellsSection}
use Rattle.wc_read.specs.declared.types.TableType.{TableType}
use Rattle.wc_read.specs.declared.types.MemoryType.{MemoryType}
use Rattle.wc_read.specs.declared.types.GlobalType.{GlobalType}
use Rattle.wc_read.specs.declared.types.ImportType.{ImportType}
use Rattle.wc_read.specs.declared.types.ImportType.TheVariants.{Func, Table, Memory, Global}
use Rattle.wc_write.specs.Text.{number_text, optional_text, name_text, val_type_text, global_text, bounds_text, table_text, memory_text, import_type_text, import_text, imports_text, section_text}
use Rattle.wc_write.specs.Values.{AreBytes}
use Rattle.wc_write.proofs.ByteLemmas.{front_bytes, back_bytes, tail_bytes}
use Rattle.wc_write.proofs.NumberTextLemmas.{number_shortest}
use Rattle.wc_write.proofs.ValueTypeLemmas.{val_type_shortest}

-- parts that are no longer are no longer together
pub joined : (a b c d : List ℕ) → length a ≤ length c → length b ≤ length d → length (a ++ b) ≤ length (c ++ d)
joined a b c d front back = omega (arith, length-append a b, length-append c d)

optional_shortest : (bits : ℕ) (o : Option ℕ) (bytes : List ℕ) → SpellsOptional (SpellsNumber bits) bytes o → AreBytes bytes → length (optional_text o) ≤ length bytes
optional_shortest bits None bytes s all = omega arith
optional_shortest bits (Some n) bytes s all = number_shortest 9 s all

pub name_shortest : (bytes name : List ℕ) → SpellsName bytes name → AreBytes bytes → length (name_text name) ≤ length bytes
name_shortest bytes name s all = rw s.1 (joined (number_text (length name)) name s.0 name (number_shortest 9 s.2 (front_bytes s.0 name (rw s.1 at all))) (omega arith))

bounds_shortest : (is_64 : Bool) (initial : ℕ) (maximum : Option ℕ) (bytes : List ℕ) → SpellsBounds is_64 initial maximum bytes → AreBytes bytes → length (bounds_text initial maximum) ≤ length bytes
bounds_shortest is_64 initial maximum bytes s all =
    let cut = rw s.cut at all in
    rw s.cut (joined (number_text initial) (optional_text maximum) s.initial_bytes s.maximum_bytes
    (number_shortest 9 s.has_initial (front_bytes s.initial_bytes s.maximum_bytes cut))
    (optional_shortest (bound_bits is_64) maximum s.maximum_bytes s.has_maximum (back_bytes s.initial_bytes s.maximum_bytes cut)))

pub table_shortest : (bytes : List ℕ) (t : TableType) → SpellsTable bytes t → AreBytes bytes → length (table_text t) ≤ length bytes
table_shortest bytes t s all =
    let cut = rw s.cut at all in
    let bounds = tail_bytes (flags_code (table_flags t)) s.bounds (back_bytes s.element (flags_code (table_flags t) ∷ s.bounds) cut) in
    let rest = bounds_shortest t.table64 t.initial t.maximum s.bounds s.has_bounds bounds in
    let element = val_type_shortest s.element t.element_type s.has_element (front_bytes s.element (flags_code (table_flags t) ∷ s.bounds) cut) in
    rw s.cut (joined (val_type_text t.element_type) (flags_code (table_flags t) ∷ bounds_text t.initial t.maximum) s.element
    (flags_code (table_flags t) ∷ s.bounds) element (omega (arith, rest)))

pub memory_shortest : (bytes : List ℕ) (m : MemoryType) → SpellsMemory bytes m → AreBytes bytes → length (memory_text m) ≤ length bytes
memory_shortest bytes m s all =
    let parts = tail_bytes (flags_code (memory_flags m)) (s.bounds ++ s.page_size_log2) (rw s.cut at all) in
    let rest = joined (bounds_text m.initial m.maximum) (optional_text m.page_size_log2) s.bounds s.page_size_log2
    (bounds_shortest m.memory64 m.initial m.maximum s.bounds s.has_bounds (front_bytes s.bounds s.page_size_log2 parts))
    (optional_shortest 32 m.page_size_log2 s.page_size_log2 s.has_page_size_log2 (back_bytes s.bounds s.page_size_log2 parts)) in
    rw s.cut (omega arith)

pub global_type_shortest : (bytes : List ℕ) (g : GlobalType) → SpellsGlobal bytes g → AreBytes bytes → length (global_text g) ≤ length bytes
global_type_shortest bytes g s all =
    rw s.1 (joined (val_type_text g.content_type) (mutable_code g.mutable ∷ []) s.0 (mutable_code g.mutable ∷ [])
    (val_type_shortest s.0 g.content_type s.2 (front_bytes s.0 (mutable_code g.mutable ∷ []) (rw s.1 at all))) (omega arith))

import_type_shortest : (bytes : List ℕ) (t : ImportType) → SpellsImportType bytes t → AreBytes bytes → length (import_type_text t) ≤ length bytes
import_type_shortest bytes (Func index) s all =
    let rest = number_shortest 9 s.2 (tail_bytes 0 s.0 (rw s.1 at all)) in
    rw s.1 (omega arith)
import_type_shortest bytes (Table t) s all =
    let rest = table_shortest s.0 t s.2 (tail_bytes 1 s.0 (rw s.1 at all)) in
    rw s.1 (omega arith)
import_type_shortest bytes (Memory m) s all =
    let rest = memory_shortest s.0 m s.2 (tail_bytes 2 s.0 (rw s.1 at all)) in
    rw s.1 (omega arith)
import_type_shortest bytes (Global g) s all =
    let rest = global_type_shortest s.0 g s.2 (tail_bytes 3 s.0 (rw s.1 at all)) in
    rw s.1 (omega arith)

pub import_shortest : (bytes : List ℕ) (i : ImportValue) → SpellsImport bytes i → AreBytes bytes → length (import_text i) ≤ length bytes
unfolding import_text
import_shortest bytes i s all =
    let cut = rw s.cut at all in
    let after = back_bytes s.module_bytes (s.name_bytes ++ s.type_bytes) cut in
    rw s.cut (joined (name_text i.module_name) (name_text i.name ++ import_type_text i.ty) s.module_bytes (s.name_bytes ++ s.type_bytes)
    (name_shortest s.module_bytes i.module_name s.has_module (front_bytes s.module_bytes (s.name_bytes ++ s.type_bytes) cut))
    (joined (name_text i.name) (import_type_text i.ty) s.name_bytes s.type_bytes
    (name_shortest s.name_bytes i.name s.has_name (front_bytes s.name_bytes s.type_bytes after))
    (import_type_shortest s.type_bytes i.ty s.has_type (back_bytes s.name_bytes s.type_bytes after))))

items_shortest : (bytes : List ℕ) (is : List ImportValue) → SpellsItems SpellsImport bytes is → AreBytes bytes → length (flat_map import_text is) ≤ length bytes
items_shortest bytes [] s all = omega arith
items_shortest bytes (i ∷ is) s all =
    let cut = rw s.2 at all in
    rw s.2 (joined (import_text i) (flat_map import_text is) s.0 s.1 (import_shortest s.0 i s.3 (front_bytes s.0 s.1 cut)) (items_shortest s.1 is s.4 (back_bytes s.0 s.1 cut)))

pub imports_shortest : (bytes : List ℕ) (is : List ImportValue) → AreBytes bytes → SpellsImports bytes is → length (imports_text is) ≤ length bytes
unfolding imports_text
imports_shortest bytes is all s =
    let cut = rw s.2 at all in
    rw s.2 (joined (number_text (length is)) (flat_map import_text is) s.0 s.1 (number_shortest 9 s.3 (front_bytes s.0 s.1 cut)) (items_shortest s.1 is s.4 (back_bytes s.0 s.1 cut)))

pub section_shortest : (bytes : List ℕ) (s : SectionValue) → AreBytes bytes → SpellsSection bytes s → length (section_text s.id s.content) ≤ length bytes
unfolding section_text
section_shortest bytes s all h =
    let size = front_bytes h.size s.content (tail_bytes s.id (h.size ++ s.content) (rw h.cut at all)) in
    let rest = joined (number_text (length s.content)) s.content h.size s.content (number_shortest 9 h.has_size size) (omega arith) in
    rw h.cut (omega arith)
