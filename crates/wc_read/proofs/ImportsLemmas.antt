-- Imports are read as they are spelled.
use Rattle.std.proofs.Common.{◌≡◌, ℕ, List, [], ◌∷◌, ◌++◌, None, refl, ◌∙◌, ap, arith}
use Rattle.std.specs.Prelude.{◌==◌, if◌then◌else◌}
use Rattle.wc_read.specs.Formats.{Format, SpellsNumber, SpellsName, Joined}
use Rattle.wc_read.specs.Types.{SpellsGlobal}
use Rattle.wc_read.specs.Limits.{SpellsTable, SpellsMemory}
use Rattle.wc_read.specs.Imports.{ImportValue, SpellsImportType, SpellsImport, SpellsImports}
use Rattle.wc_read.specs.Reading.Reader.{Read, byte_at, number_at, name_at, vector_at}
use Rattle.wc_read.specs.Reading.Limits.{table_at, memory_at}
use Rattle.wc_read.specs.Reading.Types.{global_at}
use Rattle.wc_read.specs.Reading.Imports.{import_type_at, import_at}
use Rattle.wc_read.specs.Options.{◌>>=◌}
use Rattle.wc_read.specs.declared.types.ImportType.{ImportType}
use Rattle.wc_read.specs.declared.types.ImportType.TheVariants.{Func, Table, Memory, Global}
use Rattle.wc_read.proofs.MeetsLemmas.{Meets, same_meets, bind_meets, made_meets, made_at, number_meets, byte_meets, choice_meets, none_meets, vector_meets, IsByte, Made}
use Rattle.wc_read.proofs.TypesLemmas.{name_meets, global_meets}
use Rattle.wc_read.proofs.LimitsLemmas.{table_meets, memory_meets}

-- the byte of what is imported, and what is after it
kind_code : ImportType → ℕ
kind_code (Func i) = 0
kind_code (Table t) = 1
kind_code (Memory m) = 2
kind_code (Global g) = 3

SpellsContent : Format ImportType
SpellsContent bytes (Func i) = SpellsNumber 32 bytes i
SpellsContent bytes (Table t) = SpellsTable bytes t
SpellsContent bytes (Memory m) = SpellsMemory bytes m
SpellsContent bytes (Global g) = SpellsGlobal bytes g

abbrev After : ℕ → Format ImportType
After kind bytes ty = SpellsContent bytes ty × (kind ≡ kind_code ty)

from_func : (k : ℕ) → k ≡ 0 → (bytes : List ℕ) (ty : ImportType) → After k bytes ty → Made (SpellsNumber 32) Func bytes ty
unfolding kind_code SpellsContent
from_func k e bytes (Func i) s = (i, s.0, refl)
from_func k e bytes _ s = absurd (omega (arith, s.1))

from_table : (k : ℕ) → k ≡ 1 → (bytes : List ℕ) (ty : ImportType) → After k bytes ty → Made SpellsTable Table bytes ty
unfolding kind_code SpellsContent
from_table k e bytes (Table t) s = (t, s.0, refl)
from_table k e bytes _ s = absurd (omega (arith, s.1))

from_memory : (k : ℕ) → k ≡ 2 → (bytes : List ℕ) (ty : ImportType) → After k bytes ty → Made SpellsMemory Memory bytes ty
unfolding kind_code SpellsContent
from_memory k e bytes (Memory m) s = (m, s.0, refl)
from_memory k e bytes _ s = absurd (omega (arith, s.1))

from_global : (k : ℕ) → k ≡ 3 → (bytes : List ℕ) (ty : ImportType) → After k bytes ty → Made SpellsGlobal Global bytes ty
unfolding kind_code SpellsContent
from_global k e bytes (Global g) s = (g, s.0, refl)
from_global k e bytes _ s = absurd (omega (arith, s.1))

no_other : (k : ℕ) → (k ≡ 0 → ⊥) → (k ≡ 1 → ⊥) → (k ≡ 2 → ⊥) → (k ≡ 3 → ⊥) → (bytes : List ℕ) (ty : ImportType) → After k bytes ty → ⊥
unfolding kind_code
no_other k a b c d bytes (Func i) s = a s.1
no_other k a b c d bytes (Table t) s = b s.1
no_other k a b c d bytes (Memory m) s = c s.1
no_other k a b c d bytes (Global g) s = d s.1

abbrev appended_at : ℕ → Read ImportType
appended_at kind bytes =
    if kind == 0 then number_at 32 bytes >>= made_at Func
    else (if kind == 1 then table_at bytes >>= made_at Table
    else (if kind == 2 then memory_at bytes >>= made_at Memory
    else (if kind == 3 then global_at bytes >>= made_at Global else None)))

after_meets : (k : ℕ) → Meets (After k) (appended_at k)
unfolding kind_code SpellsContent
after_meets k =
    choice_meets (After k) k 0 _ _ (λ e. same_meets (Made (SpellsNumber 32) Func) (After k) _ (made_meets (SpellsNumber 32) (number_at 32) Func (number_meets 32)) (λ bytes ty s. rw s.2 (s.1, e)) (from_func k e)) (λ a.
    choice_meets (After k) k 1 _ _ (λ e. same_meets (Made SpellsTable Table) (After k) _ (made_meets SpellsTable table_at Table table_meets) (λ bytes ty s. rw s.2 (s.1, e)) (from_table k e)) (λ b.
    choice_meets (After k) k 2 _ _ (λ e. same_meets (Made SpellsMemory Memory) (After k) _ (made_meets SpellsMemory memory_at Memory memory_meets) (λ bytes ty s. rw s.2 (s.1, e)) (from_memory k e)) (λ c.
    choice_meets (After k) k 3 _ _ (λ e. same_meets (Made SpellsGlobal Global) (After k) _ (made_meets SpellsGlobal global_at Global global_meets) (λ bytes ty s. rw s.2 (s.1, e)) (from_global k e)) (λ d.
    none_meets (After k) (no_other k a b c d)))))

type_to : (bytes : List ℕ) (ty : ImportType) → Joined IsByte After bytes ty → SpellsImportType bytes ty
unfolding kind_code SpellsContent
type_to bytes (Func i) j = (j.2, rw (j.3, j.4, j.5.1) refl, j.5.0)
type_to bytes (Table t) j = (j.2, rw (j.3, j.4, j.5.1) refl, j.5.0)
type_to bytes (Memory m) j = (j.2, rw (j.3, j.4, j.5.1) refl, j.5.0)
type_to bytes (Global g) j = (j.2, rw (j.3, j.4, j.5.1) refl, j.5.0)

type_from : (bytes : List ℕ) (ty : ImportType) → SpellsImportType bytes ty → Joined IsByte After bytes ty
unfolding kind_code SpellsContent
type_from bytes (Func i) s = (0, 0 ∷ [], s.0, s.1, refl, (s.2, refl))
type_from bytes (Table t) s = (1, 1 ∷ [], s.0, s.1, refl, (s.2, refl))
type_from bytes (Memory m) s = (2, 2 ∷ [], s.0, s.1, refl, (s.2, refl))
type_from bytes (Global g) s = (3, 3 ∷ [], s.0, s.1, refl, (s.2, refl))

pub import_type_meets : Meets SpellsImportType import_type_at
unfolding import_type_at
import_type_meets = same_meets (Joined IsByte After) SpellsImportType import_type_at (bind_meets IsByte byte_at After appended_at byte_meets after_meets) type_to type_from

made_import : List ℕ → List ℕ → ImportType → ImportValue
made_import m n t = record { module_name = m; name = n; ty = t }

abbrev SpellsEnd : List ℕ → List ℕ → Format ImportValue
SpellsEnd m n = Made SpellsImportType (made_import m n)

import_to : (bytes : List ℕ) (i : ImportValue) → Joined SpellsName (λ m. Joined SpellsName (SpellsEnd m)) bytes i → SpellsImport bytes i
unfolding made_import
import_to bytes i j =
    rw j.5.5.2 (record { module_bytes = j.1; name_bytes = j.5.1; type_bytes = j.5.2; cut = j.3 ∙ ap (λ (r : List ℕ). j.1 ++ r) j.5.3; has_module = j.4; has_name = j.5.4; has_type = j.5.5.1 })

import_from : (bytes : List ℕ) (i : ImportValue) → SpellsImport bytes i → Joined SpellsName (λ m. Joined SpellsName (SpellsEnd m)) bytes i
unfolding made_import
import_from bytes i s = (i.module_name, s.module_bytes, s.name_bytes ++ s.type_bytes, s.cut, s.has_module, (i.name, s.name_bytes, s.type_bytes, refl, s.has_name, (i.ty, s.has_type, refl)))

pub import_meets : Meets SpellsImport import_at
unfolding import_at made_import
import_meets =
    same_meets (Joined SpellsName (λ m. Joined SpellsName (SpellsEnd m))) SpellsImport import_at
    (bind_meets SpellsName name_at (λ m. Joined SpellsName (SpellsEnd m)) (λ m bytes. name_at bytes >>= λ n. import_type_at n.1 >>= made_at (made_import m n.0)) name_meets
    (λ m. bind_meets SpellsName name_at (SpellsEnd m) (λ n bytes. import_type_at bytes >>= made_at (made_import m n)) name_meets
    (λ n. made_meets SpellsImportType import_type_at (made_import m n) import_type_meets)))
    import_to import_from

pub imports_meet : Meets SpellsImports (vector_at import_at)
imports_meet = vector_meets SpellsImport import_at import_meets
