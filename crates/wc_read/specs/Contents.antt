-- The contents of a module's sections (WebAssembly core specification, 5.3.6, 5.5.4, 5.5.6 to 5.5.8, 5.5.11 and 5.5.13).
use Rattle.std.specs.Prelude.{◌≡◌, ℕ, List, ◌∷◌, ◌++◌, length}
use Rattle.wc_read.specs.Formats.{Format, SpellsNumber, SpellsVector}
use Rattle.wc_read.specs.Types.{FuncTypeValue, SpellsValType}
use Rattle.wc_read.specs.Limits.{SpellsTable, SpellsMemory}
use Rattle.wc_read.specs.declared.types.TableType.{TableType}
use Rattle.wc_read.specs.declared.types.MemoryType.{MemoryType}

-- the byte that a function type begins with
abbrev pub func_type_code : ℕ
func_type_code = 0x60

-- a function type (5.3.6): its byte, parameters, results
pub record SpellsFuncType (bytes : List ℕ) (f : FuncTypeValue) : Type 0 where
  pub params_bytes : List ℕ
  pub results_bytes : List ℕ
  pub cut : bytes ≡ func_type_code ∷ (params_bytes ++ results_bytes)
  pub has_params : SpellsVector SpellsValType params_bytes f.params
  pub has_results : SpellsVector SpellsValType results_bytes f.results

-- bytes after their number
abbrev pub SpellsSizePrefixed : Format (List ℕ)
SpellsSizePrefixed bytes content = (size : List ℕ) × (bytes ≡ size ++ content) × SpellsNumber 32 size (length content)

-- the content of a type section (5.5.4)
abbrev pub SpellsFuncTypes : Format (List FuncTypeValue)
SpellsFuncTypes bytes fs = SpellsVector SpellsFuncType bytes fs

-- the content of a function section (5.5.6): for each function the index of its type
abbrev pub SpellsIndices : Format (List ℕ)
SpellsIndices bytes indices = SpellsVector (SpellsNumber 32) bytes indices

-- the content of a table section (5.5.7)
abbrev pub SpellsTables : Format (List TableType)
SpellsTables bytes ts = SpellsVector SpellsTable bytes ts

-- the content of a memory section (5.5.8)
abbrev pub SpellsMemories : Format (List MemoryType)
SpellsMemories bytes ms = SpellsVector SpellsMemory bytes ms

-- the content of a start section (5.5.11): the index of a function
abbrev pub SpellsStart : Format ℕ
SpellsStart bytes index = SpellsNumber 32 bytes index

-- the content of a code section (5.5.13), its bodies by their sizes
abbrev pub SpellsBodies : Format (List (List ℕ))
SpellsBodies bytes bodies = SpellsVector SpellsSizePrefixed bytes bodies
