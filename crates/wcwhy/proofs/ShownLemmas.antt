-- What is shown of modules, and what is said besides.
use Rattle.std.proofs.Common.{◌≡◌, ◌∙◌, ℕ, Bool, false, List, [], ◌∷◌, length, map, Some, None, Result, Ok, Err, OnOk, IfOk, subst}
use Rattle.std.specs.Prelude.{◌==◌}
use Rattle.wc_import_paths.specs.Patterns.{PatternView, first_unknown, pattern_view}
use Rattle.wc_import_paths.specs.declared.patterns.ImportPattern.{ImportPattern}
use Rattle.wc_program.specs.Screen.{Printing}
use Rattle.wc_read.specs.Imports.{ImportValue}
use Rattle.wcwhy.specs.Arguments.{CommandView}
use Rattle.wcwhy.specs.Inputs.{AllowView}
use Rattle.wcwhy.specs.Private.Execution.{PrintsSome}
use Rattle.wcwhy.specs.Shown.{IsAnswer, ShowsThese}
use Rattle.wcwhy.specs.Private.Warnings.{said_view}
use Rattle.wcwhy.specs.Warnings.{Saying, quiet, refused_patterns, said_by}
use Rattle.wcwhy.specs.declared.fault.WhyFault.{WhyFault}
use Rattle.wcwhy.specs.declared.warnings.Said.{Said}

module _ (c : CommandView) (of_component : Bool) (Shows : List PatternView → List ℕ → Type 0) (out : Printing → Type 0) where
  -- with some patterns
  pub shows_some : {T : Type 0} (patterns : List ImportPattern) (asked : List PatternView) (r : Result T WhyFault) → (length patterns == 0) ≡ false
      → asked ≡ map pattern_view patterns → OnOk r (PrintsSome (Shows asked) out)
      → OnOk r (PrintsSome (ShowsThese c of_component Shows (map pattern_view patterns)) out)
  shows_some [] asked r some are h = absurd cc
  shows_some (p ∷ patterns) asked r some are h = subst (λ ps. OnOk r (PrintsSome (Shows ps) out)) are h

  -- what options ask for of these imports, and what is not allowed of those from modules of some names
  module _ (imports : List ImportValue) (AreNames : List (List ℕ) → Type 0) where
    pub plain_answer : (patterns : List PatternView) → patterns ≡ c.imports → first_unknown imports c.imports ≡ None → (r : Result Said WhyFault)
        → IfOk r (λ said. said_view said ≡ quiet) → OnOk r (PrintsSome (Shows patterns) out)
        → IfOk r (λ said. PrintsSome (IsAnswer c of_component Shows imports AreNames None (said_view said)) out)
    plain_answer patterns are known (Ok said) is (text, shows, shown) = (text, (known, subst (λ ps. Shows ps text) are shows, is), shown)
    plain_answer patterns are known (Err f) is h = tt

    pub judged_answer : (a : AllowView) (names : List (List ℕ)) (patterns : List PatternView) (saying : Saying) → AreNames names
        → patterns ≡ refused_patterns a names → saying ≡ said_by a names → (r : Result Said WhyFault) → IfOk r (λ said. said_view said ≡ saying)
        → OnOk r (PrintsSome (ShowsThese c of_component Shows patterns) out)
        → IfOk r (λ said. PrintsSome (IsAnswer c of_component Shows imports AreNames (Some a) (said_view said)) out)
    judged_answer a names patterns saying named are is (Ok said) same (text, shows, shown) =
        (text, (names, named, subst (λ ps. ShowsThese c of_component Shows ps text) are shows, same ∙ is), shown)
    judged_answer a names patterns saying named are is (Err f) same h = tt
