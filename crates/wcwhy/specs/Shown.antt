-- What is shown of modules: what options ask for, or what is not allowed.
use Rattle.std.specs.Prelude.{◌≡◌, ℕ, Bool, List, [], ◌∷◌, Option, Some, None}
use Rattle.wc_import_paths.specs.Patterns.{PatternView, first_unknown}
use Rattle.wc_read.specs.Imports.{ImportValue}
use Rattle.wcwhy.specs.Arguments.{CommandView}
use Rattle.wcwhy.specs.Inputs.{AllowView}
use Rattle.wcwhy.specs.Tree.{IsTreeText, no_paths}
use Rattle.wcwhy.specs.Warnings.{Saying, quiet, refused_patterns, said_by}

-- of the modules of a component, or of one that stands alone: what texts are shown of patterns
module _ (c : CommandView) (of_component : Bool) (Shows : List PatternView → List ℕ → Type 0) where
  -- without patterns no path is shown
  abbrev pub ShowsThese : List PatternView → List ℕ → Type 0
  ShowsThese [] text = IsTreeText of_component c no_paths text
  ShowsThese (p ∷ patterns) text = Shows (p ∷ patterns) text

  -- of modules with these imports, of which something is imported from modules of certain names; and what is said besides: each option asks
  -- for some of the imports, which are shown; or a file says what is allowed, and what is imported from other modules is shown
  abbrev pub IsAnswer : List ImportValue → (List (List ℕ) → Type 0) → Option AllowView → Saying → List ℕ → Type 0
  IsAnswer imports AreNames None said text = (first_unknown imports c.imports ≡ None) × Shows c.imports text × (said ≡ quiet)
  IsAnswer imports AreNames (Some a) said text =
      (names : List (List ℕ)) × AreNames names × ShowsThese (refused_patterns a names) text × (said ≡ said_by a names)
