-- A file that could not be written.
use Rattle.std.specs.Prelude.{◌≡◌, ℕ, List}
use Rattle.wc_program.specs.Files.{FileChange, KeepsOthers}
use Rattle.wcwhy.specs.declared.fault.WhyFault.{WhyFault}
use Rattle.wcwhy.specs.declared.fault.WhyFault.TheVariants.{CannotWrite}

abbrev pub IsWriteFault : List ℕ → List ℕ → FileChange → WhyFault → Type 0
IsWriteFault path bytes files (CannotWrite at p) =
    (at.now ≡ path) × files.IsFailedWrite path bytes p × KeepsOthers files.before files.after path
IsWriteFault path bytes files f = ⊥
