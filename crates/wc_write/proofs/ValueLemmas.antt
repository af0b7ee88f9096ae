-- What bytes spell can be spelled.
use Rattle.std.proofs.Common.{◌≡◌, ℕ, ◌+◌, ◌-◌, ◌*◌, ◌^◌, ◌<◌, List, [], ◌∷◌, ◌++◌, length, Bool, Option, Some, None, IfSome, arith}
use Rattle.std.specs.Prelude.{All}
use Rattle.std.proofs.lemmas.Nat.{pow-add}
use Rattle.std.proofs.lemmas.List.Elements.{All-nil, All-cons, All-head}
use Rattle.wc_read.specs.Formats.{SpellsNumber, last, more, SpellsOptional, SpellsName, SpellsItems}
use Rattle.wc_read.specs.Types.{mutable_code, SpellsGlobal}
use Rattle.wc_read.specs.Limits.{flags_code, table_flags, memory_flags, bound_bits, SpellsBounds, SpellsTable, SpellsMemory, IsMemory}
use Rattle.wc_read.specs.Imports.{ImportValue, SpellsImportType, SpellsImport, SpellsImports}
use Rattle.wc_read.specs.declared.types.TableType.{TableType}
use Rattle.wc_read.specs.declared.types.MemoryType.{MemoryType}
use Rattle.wc_read.specs.declared.types.GlobalType.{GlobalType}
use Rattle.wc_read.specs.declared.types.ImportType.{ImportType}
use Rattle.wc_read.specs.declared.types.ImportType.TheVariants.{Func, Table, Memory, Global}
use Rattle.wc_write.specs.Values.{AreBytes, IsName, AreBounds, IsValType, IsTable, IsImportType, IsImport}
use Rattle.wc_write.proofs.ByteLemmas.{front_bytes, back_bytes, tail_bytes}
use Rattle.wc_write.proofs.ValueTypeLemmas.{val_type_is}

-- a number has its bits
pub number_fits : {bits n : ℕ} {bytes : List ℕ} → SpellsNumber bits bytes n → AreBytes bytes → n < 2 ^ bits
number_fits (last small fits) all = fits
number_fits (more {bits = bits} {b = b} {high = high} {bytes = bytes} seven large s) all =
    let e : bits - 7 + 7 ≡ bits = omega arith in
    let p : 2 ^ (bits - 7 + 7) ≡ 2 ^ (bits - 7) * 2 ^ 7 = pow-add 2 (bits - 7) 7 in
    let q : 2 ^ bits ≡ 2 ^ (bits - 7) * 128 = rw e at p in
    let byte : b < 256 = All-head (λ (b : ℕ). b < 256) b bytes all in
    let rest : high < 2 ^ (bits - 7) = number_fits s (tail_bytes b bytes all) in
    omega arith

optional_fits : (bits : ℕ) (o : Option ℕ) (bytes : List ℕ) → SpellsOptional (SpellsNumber bits) bytes o → AreBytes bytes → IfSome o (λ n. n < 2 ^ bits)
optional_fits bits None bytes s all = tt
optional_fits bits (Some n) bytes s all = number_fits s all

pub name_is : (bytes name : List ℕ) → SpellsName bytes name → AreBytes bytes → IsName name
name_is bytes name s all = record { is_text = s.3; short = number_fits s.2 (front_bytes s.0 name (rw s.1 at all)) }

pub bounds_are : (is_64 : Bool) (initial : ℕ) (maximum : Option ℕ) (bytes : List ℕ) → SpellsBounds is_64 initial maximum bytes → AreBytes bytes → AreBounds is_64 initial maximum
bounds_are is_64 initial maximum bytes s all =
    let cut = rw s.cut at all in
    record {
      initial_fits = number_fits s.has_initial (front_bytes s.initial_bytes s.maximum_bytes cut);
      maximum_fits = optional_fits (bound_bits is_64) maximum s.maximum_bytes s.has_maximum (back_bytes s.initial_bytes s.maximum_bytes cut);
    }

pub table_is : (bytes : List ℕ) (t : TableType) → SpellsTable bytes t → AreBytes bytes → IsTable t
table_is bytes t s all =
    let cut = rw s.cut at all in
    let bounds = tail_bytes (flags_code (table_flags t)) s.bounds (back_bytes s.element (flags_code (table_flags t) ∷ s.bounds) cut) in
    record {
      element_fits = val_type_is s.element t.element_type s.has_element (front_bytes s.element (flags_code (table_flags t) ∷ s.bounds) cut);
      element_is_reference = s.element_is_reference;
      bounds = bounds_are t.table64 t.initial t.maximum s.bounds s.has_bounds bounds;
      ordered = s.ordered;
    }

pub memory_is : (bytes : List ℕ) (m : MemoryType) → SpellsMemory bytes m → AreBytes bytes → IsMemory m × AreBounds m.memory64 m.initial m.maximum
memory_is bytes m s all =
    let parts = tail_bytes (flags_code (memory_flags m)) (s.bounds ++ s.page_size_log2) (rw s.cut at all) in
    (s.is_memory, bounds_are m.memory64 m.initial m.maximum s.bounds s.has_bounds (front_bytes s.bounds s.page_size_log2 parts))

pub global_type_is : (bytes : List ℕ) (g : GlobalType) → SpellsGlobal bytes g → AreBytes bytes → IsValType g.content_type
global_type_is bytes g s all = val_type_is s.0 g.content_type s.2 (front_bytes s.0 (mutable_code g.mutable ∷ []) (rw s.1 at all))

import_type_is : (bytes : List ℕ) (t : ImportType) → SpellsImportType bytes t → AreBytes bytes → IsImportType t
import_type_is bytes (Func index) s all = number_fits s.2 (tail_bytes 0 s.0 (rw s.1 at all))
import_type_is bytes (Table t) s all = table_is s.0 t s.2 (tail_bytes 1 s.0 (rw s.1 at all))
import_type_is bytes (Memory m) s all = memory_is s.0 m s.2 (tail_bytes 2 s.0 (rw s.1 at all))
import_type_is bytes (Global g) s all = global_type_is s.0 g s.2 (tail_bytes 3 s.0 (rw s.1 at all))

pub import_is : (bytes : List ℕ) (i : ImportValue) → SpellsImport bytes i → AreBytes bytes → IsImport i
import_is bytes i s all =
    let cut = rw s.cut at all in
    let after = back_bytes s.module_bytes (s.name_bytes ++ s.type_bytes) cut in
    record {
      has_module = name_is s.module_bytes i.module_name s.has_module (front_bytes s.module_bytes (s.name_bytes ++ s.type_bytes) cut);
      has_name = name_is s.name_bytes i.name s.has_name (front_bytes s.name_bytes s.type_bytes after);
      has_type = import_type_is s.type_bytes i.ty s.has_type (back_bytes s.name_bytes s.type_bytes after);
    }

items_are : (bytes : List ℕ) (is : List ImportValue) → SpellsItems SpellsImport bytes is → AreBytes bytes → All IsImport is
items_are bytes [] s all = All-nil IsImport
items_are bytes (i ∷ is) s all =
    let cut = rw s.2 at all in
    All-cons IsImport i is (import_is s.0 i s.3 (front_bytes s.0 s.1 cut)) (items_are s.1 is s.4 (back_bytes s.0 s.1 cut))

pub imports_are : (bytes : List ℕ) (is : List ImportValue) → AreBytes bytes → SpellsImports bytes is → (length is < 2 ^ 32) × All IsImport is
imports_are bytes is all s =
    let cut = rw s.2 at all in
    (number_fits s.3 (front_bytes s.0 s.1 cut), items_are s.1 is s.4 (back_bytes s.0 s.1 cut))
