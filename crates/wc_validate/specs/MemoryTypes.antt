-- The memory that a module is recorded to import.
use Rattle.std.specs.Prelude.{◌≡◌, ◌≤◌, ℕ, List, Some}
use Rattle.wc_read.specs.declared.types.MemoryType.{MemoryType}
use Rattle.wc_read.specs.Limits.{IsMemory, page_size_log2_of}
use Rattle.wc_validate.specs.Imports.Map.{memory_in}
use Rattle.wc_validate.specs.Validate.{IsRecordOf, ValidationInput, ModuleRecord}

-- a recorded memory has a type as modules have them, so the exponent of its pages is 16 at most
abbrev pub RecordedMemoriesValid : Type 0
RecordedMemoriesValid =
    (j : ValidationInput) (bytes : List ℕ) (r : ModuleRecord) (t : MemoryType) → IsRecordOf j bytes r → memory_in r.imports ≡ Some t → IsMemory t × (page_size_log2_of t.page_size_log2 ≤ 16)
