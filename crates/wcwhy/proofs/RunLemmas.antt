-- How the program ends by what its arguments are read as, and what was printed of the files of a command.
use Rattle.std.proofs.Common.{◌≡◌, ◌∙◌, ap, ℕ, List, Option, Some, None, Result, Ok, Err, IfOk, IfErr, refl, sym, subst, inl, inr}
use Rattle.wc_component_file.specs.Headers.{BeginsAsComponent}
use Rattle.wc_module_ways.specs.Adapters.{Given}
use Rattle.wc_program.specs.Files.{FileChange}
use Rattle.wc_program.specs.Screen.{Printing, nothing}
use Rattle.wc_options.specs.Wrong.{IsStop, Reading, wrong_view}
use Rattle.wcwhy.specs.Arguments.{CommandView}
use Rattle.wcwhy.specs.Component.{IsComponentCause, IsComponentText}
use Rattle.wcwhy.specs.CoreFile.{IsCoreCause, IsCoreWritten, target_of}
use Rattle.wcwhy.specs.Reading.{AsksMemory, read_arguments}
use Rattle.wcwhy.specs.Inputs.{AllowView, AreInputs}
use Rattle.wcwhy.specs.Program.{CommandEnds, EndsWell, EndsWellWith, EndsWith, IsCauseWith, IsModuleCause, IsModuleText, IsPrinted, IsPrintingCause, IsRunCause, IsText, IsTextCause, ReadingEnds, is_alone}
use Rattle.wcwhy.specs.Warnings.{Saying, quiet}
use Rattle.wcwhy.specs.Private.Execution.{AnswersStop, PrintsSome}
use Rattle.wcwhy.specs.Private.Warnings.{said_view}
use Rattle.wc_options.specs.declared.wrong.NoCommand.{NoCommand}
use Rattle.wc_options.specs.declared.wrong.NoCommand.TheVariants.{Memory, Help, Version, Wrong}
use Rattle.wcwhy.specs.declared.fault.WhyFault.{WhyFault}
use Rattle.wcwhy.specs.declared.warnings.Said.{Said}

pub ends_by_command : (arguments : List (List ℕ)) (c : CommandView) (files : FileChange) (out err : Printing → Type 0) (status : ℕ)
    → read_arguments arguments ≡ Ok c → CommandEnds c files out err status → EndsWith arguments files out err status
ends_by_command arguments c files out err status read ends =
    inl (subst (λ (r : Reading CommandView). ReadingEnds r files out err status) (sym read) ends)

pub ends_by_stop : (arguments : List (List ℕ)) (e : NoCommand) (files : FileChange) (out err : Printing → Type 0) (status : ℕ) → files.after ≡ files.before
    → IsStop (AsksMemory arguments) (read_arguments arguments) e → AnswersStop e out err status → EndsWith arguments files out err status
ends_by_stop arguments Memory files out err status kept stops answer = inr (kept, inl stops, answer)
ends_by_stop arguments Help files out err status kept stops answer =
    inl (subst (λ (r : Reading CommandView). ReadingEnds r files out err status) (sym stops) (answer, kept))
ends_by_stop arguments Version files out err status kept stops answer =
    inl (subst (λ (r : Reading CommandView). ReadingEnds r files out err status) (sym stops) (answer, kept))
ends_by_stop arguments (Wrong w) files out err status kept stops (inl answer) =
    inl (subst (λ (r : Reading CommandView). ReadingEnds r files out err status) (sym stops) (answer, kept))
ends_by_stop arguments (Wrong w) files out err status kept stops (inr none) = inr (kept, inr (wrong_view w, stops), none)

-- what the file of a command has was printed of, or could not be
module _ (c : CommandView) (source : List ℕ) (adapters : List Given) (out : Printing → Type 0) where
  pub component_text : (allow : Option AllowView) (r : Result Said WhyFault) → BeginsAsComponent source
      → IfOk r (λ said. PrintsSome (IsComponentText c source allow (said_view said)) out)
      → IfOk r (λ said. PrintsSome (IsText c source adapters allow (said_view said)) out)
  component_text allow (Ok said) begins (text, is, shown) = (text, inl (begins, is), shown)
  component_text allow (Err f) begins h = tt

  pub component_failed : (r : Result Said WhyFault) → BeginsAsComponent source → IfErr r (IsComponentCause c source out)
      → IfErr r (IsTextCause c source adapters out)
  component_failed (Ok said) begins h = tt
  component_failed (Err f) begins h = inl (begins, h)

  pub module_text : (allow : Option AllowView) (r : Result Said WhyFault) → ¬ BeginsAsComponent source
      → IfOk r (λ said. PrintsSome (IsModuleText (is_alone c) c source adapters allow (said_view said)) out)
      → IfOk r (λ said. PrintsSome (IsText c source adapters allow (said_view said)) out)
  module_text allow (Ok said) other (text, is, shown) = (text, inr (other, is), shown)
  module_text allow (Err f) other h = tt

  pub module_failed : (r : Result Said WhyFault) → ¬ BeginsAsComponent source → IfErr r (IsModuleCause (is_alone c) c source adapters out)
      → IfErr r (IsTextCause c source adapters out)
  module_failed (Ok said) other h = tt
  module_failed (Err f) other h = inr (other, h)

-- the files of a command were read
module _ (c : CommandView) (files : FileChange) (source : List ℕ) (adapters : List Given) (allow : Option AllowView)
    (read : AreInputs c files.before source adapters allow) (out : Printing → Type 0) where
  pub read_well : (r : Result Said WhyFault) → IfOk r (λ said. PrintsSome (IsText c source adapters allow (said_view said)) out)
      → IfOk r (λ said. IsPrinted c files.before out (said_view said))
  read_well (Ok said) (text, is, shown) = (source, text, adapters, allow, read, is, shown)
  read_well (Err f) h = tt

  pub read_badly : (r : Result Said WhyFault) → IfErr r (IsTextCause c source adapters out) → IfErr r (IsPrintingCause c files out)
  read_badly (Ok said) h = tt
  read_badly (Err f) h = inr (source, adapters, allow, read, h)

-- what a command did, by whether it writes a core module
module _ (c : CommandView) (files : FileChange) (out : Printing → Type 0) where
  target_is : (index : ℕ) (path : List ℕ) → c.core ≡ Some index → c.out ≡ Some path → target_of c.core c.out ≡ Some (index, path)
  target_is index path core to = ap (λ (o : Option ℕ). target_of o c.out) core ∙ ap (target_of (Some index)) to

  pub wrote : (index : ℕ) (path : List ℕ) (said : Saying) → c.core ≡ Some index → c.out ≡ Some path → IsCoreWritten c (index, path) files.before files.after
      → out nothing → said ≡ quiet → EndsWell c files out said
  wrote index path said core to written still is =
      subst (λ (t : Option (ℕ × List ℕ)). EndsWellWith t c files out said) (sym (target_is index path core to)) (written, still, is)

  pub wrote_badly : (index : ℕ) (path : List ℕ) → c.core ≡ Some index → c.out ≡ Some path → (f : WhyFault) → IsCoreCause c (index, path) files f → out nothing
      → IsRunCause c files out f
  wrote_badly index path core to f h still = subst (λ (t : Option (ℕ × List ℕ)). IsCauseWith t c files out f) (sym (target_is index path core to)) (h, still)

  pub printed_well : target_of c.core c.out ≡ None → files.after ≡ files.before → (r : Result Said WhyFault)
      → IfOk r (λ said. IsPrinted c files.before out (said_view said)) → IfOk r (λ said. EndsWell c files out (said_view said))
  printed_well none kept (Ok said) h = subst (λ (t : Option (ℕ × List ℕ)). EndsWellWith t c files out (said_view said)) (sym none) (kept, h)
  printed_well none kept (Err f) h = tt

  pub printed_badly : target_of c.core c.out ≡ None → files.after ≡ files.before → (r : Result Said WhyFault)
      → IfErr r (IsPrintingCause c files out) → IfErr r (IsRunCause c files out)
  printed_badly none kept (Ok said) h = tt
  printed_badly none kept (Err f) h = subst (λ (t : Option (ℕ × List ℕ)). IsCauseWith t c files out f) (sym none) (kept, h)
