-- Whether the main module has a memory.
use Rattle.std.proofs.Common.{◌≡◌, ℕ, List, [], ◌∷◌, false, ◌||◌, Option, Some, None, refl, sym, ◌∙◌, ap}
use Rattle.std.specs.Prelude.{is_some}
use Rattle.std.specs.Borrow.{Bor}
use Rattle.std.specs.Option.{option_and_then, option_map}
use Rattle.wc_read.specs.declared.types.MemoryType.{MemoryType}
use Rattle.wc_names.specs.ExportViews.{ExportView, exported_memory}
use Rattle.wc_validate.specs.Exports.Map.{ExportRecord, first_that, is_memory, memory_of}
use Rattle.wc_validate.specs.Imports.Map.{memory_in}
use Rattle.wc_validate.specs.Validate.{ModuleRecord}
use Rattle.wc_plan.specs.Plans.{has_memory}

-- the first export that is a memory has a name and a type
memory_at : (name : List ℕ) (e : ExportView) (rest : ExportRecord)
    → is_some (option_and_then memory_of (first_that is_memory rest)) ≡ is_some (first_that is_memory rest)
    → is_some (option_and_then memory_of (first_that is_memory ((name, e) ∷ rest))) ≡ is_some (first_that is_memory ((name, e) ∷ rest))
memory_at name (exported_memory ty) rest later = refl
memory_at name e rest later = later

memory_there : (exports : ExportRecord) → is_some (option_and_then memory_of (first_that is_memory exports)) ≡ is_some (first_that is_memory exports)
memory_there [] = refl
memory_there (x ∷ rest) = memory_at x.0 x.1 rest (memory_there rest)

abbrev Found : Type 0
Found = Bor (List ℕ) × MemoryType

abbrev seen_memory : Found → List ℕ × MemoryType
seen_memory x = (x.0.now, x.1)

mapped_there : (e : Option Found) → is_some e ≡ is_some (option_map seen_memory e)
mapped_there None = refl
mapped_there (Some x) = refl

pub memory_else : (main : ModuleRecord) (m : Option MemoryType) (e : Option Found) → m ≡ memory_in main.imports → is_some m ≡ false
    → option_map seen_memory e ≡ option_and_then memory_of (first_that is_memory main.exports) → is_some e ≡ has_memory main
memory_else main m e imported none exported =
    mapped_there e ∙ (ap is_some exported ∙ (memory_there main.exports ∙ ap (λ b. b || is_some (first_that is_memory main.exports)) (sym none ∙ ap is_some imported)))
