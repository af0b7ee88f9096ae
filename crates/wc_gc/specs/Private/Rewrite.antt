-- Operators that are written as they are, under whatever new indices.
use Rattle.std.specs.Prelude.{◌≡◌, ℕ, List, ◌++◌, Option}
use Rattle.wc_read.specs.Operators.{InstrValue}
use Rattle.wc_read.specs.Renumbering.{Renumbering}
use Rattle.wc_read.specs.declared.operators.Space.TheVariants.{Memories}
use Rattle.wc_gc.specs.Private.BodyCuts.{text_left}

-- of operators those up to the ones that are left were written, which are the same under all indices under which memory 0
-- is memory 0
abbrev pub WritesRun : List ℕ → Option (List InstrValue) → List ℕ → Option (List InstrValue) → Type 0
WritesRun old all new_text left =
    (new : Renumbering) → new Memories 0 ≡ 0 → new_text ++ text_left new left ≡ old ++ text_left new all
