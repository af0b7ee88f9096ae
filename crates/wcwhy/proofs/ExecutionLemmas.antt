-- What was printed of a module that is followed, or why it could not be, as of its bytes.
use Rattle.std.proofs.Common.{◌≡◌, ℕ, false, List, String, Global, length, Option, Result, Ok, Err, OnOk, IfOk, IfErr, sym, subst, inl, inr}
use Rattle.std.specs.Prelude.{◌⊎◌}
use Rattle.wc_gc.specs.declared.trim_place.TrimPlace.{TrimPlace}
use Rattle.wc_gc.specs.declared.fault.GcFault.{GcFault}
use Rattle.wc_gc.specs.declared.fault.GcFault.TheVariants.{Memory as gc_memory}
use Rattle.wc_import_paths.specs.Patterns.{PatternView}
use Rattle.wc_program.specs.Screen.{Printing, nothing}
use Rattle.wc_read.specs.Modules.{module_value}
use Rattle.wcwhy.specs.Arguments.{CommandView}
use Rattle.wcwhy.specs.Fault.{IsSourceFault, of_source}
use Rattle.wc_import_paths.specs.Following.{FollowedView, IsRefusal}
use Rattle.wc_import_paths.specs.Functions.{AreAskedOf}
use Rattle.wc_import_paths.specs.Shown.{IsFollowedTree}
use Rattle.wc_why.specs.Tree.{TreeCallerView, TreeView}
use Rattle.wcwhy.specs.Tree.{IsTreeText}
use Rattle.wcwhy.specs.Inputs.{AllowView}
use Rattle.wcwhy.specs.ModuleWays.{IsNoImport}
use Rattle.wcwhy.specs.NearExports.{IsNearFor}
use Rattle.wcwhy.specs.Program.{AreImportNames, IsPrintCause, IsPrintedOf, IsSourceText}
use Rattle.wcwhy.specs.Functions.{IsFunctionFault}
use Rattle.wcwhy.specs.Shown.{IsAnswer}
use Rattle.wcwhy.specs.Private.Execution.{IsFollowedCause, IsSourceAnswer, IsTreeFault, IsUnknownOf, PrintsSome}
use Rattle.wcwhy.specs.Private.Warnings.{said_view}
use Rattle.wc_import_paths.specs.Followed.{IsSource, followed_view}
use Rattle.wc_import_paths.specs.declared.followed.Followed.{Followed}
use Rattle.wcwhy.specs.declared.fault.WhyFault.{WhyFault}
use Rattle.wcwhy.specs.declared.fault.WhyFault.TheVariants.{Memory, NoImport, Output, Source}
use Rattle.wcwhy.specs.declared.warnings.Said.{Said}

-- a module that can't be followed
refused_with : (c : CommandView) (bytes : List ℕ) (out : Printing → Type 0) (f : GcFault) (place : Option TrimPlace) (near : Option (String Global))
    → out nothing → IsRefusal bytes c.exports f place → IsNearFor bytes f near → IsPrintCause c bytes out (of_source f place near)
refused_with c bytes out gc_memory place near still h is = tt
refused_with c bytes out f place near still h is = (((λ e. cc), h, is), still)

pub refused_cause : (c : CommandView) (bytes : List ℕ) (out : Printing → Type 0) (f : GcFault) (place : Option TrimPlace) (fault : WhyFault)
    → out nothing → IsRefusal bytes c.exports f place → IsSourceFault bytes f place fault → IsPrintCause c bytes out fault
refused_cause c bytes out f place fault still h (inl none) = subst (IsPrintCause c bytes out) (sym none) tt
refused_cause c bytes out f place fault still h (inr (near, near_is, is)) =
    subst (IsPrintCause c bytes out) (sym is) (refused_with c bytes out f place near still h near_is)

-- a function that is not there
pub function_cause : (c : CommandView) (f : Followed) (out : Printing → Type 0) → out nothing → (e : WhyFault)
    → (e ≡ Memory) ⊎ IsFunctionFault c f.bytes.now (length (followed_view f).code.funcs) e → IsFollowedCause c f out e
function_cause c f out still e (inl none) = subst (IsFollowedCause c f out) (sym none) tt
function_cause c f out still Memory (inr h) = tt
function_cause c f out still Output (inr h) = absurd h.4
function_cause c f out still (NoImport p near) (inr h) = absurd h.4
function_cause c f out still e (inr h) = (h, still)

-- why a tree could not be printed
pub tree_cause : {T : Type 0} (c : CommandView) (f : Followed) (out : Printing → Type 0) (r : Result T WhyFault) → IfErr r (IsTreeFault out)
    → IfErr r (IsFollowedCause c f out)
tree_cause c f out (Ok x) h = tt
tree_cause c f out (Err e) h = by e h
  where
    by : (e : WhyFault) → IsTreeFault out e → IsFollowedCause c f out e
    by Memory h = tt
    by Output h = h
    by e h = absurd h

-- an import that is not there
pub unknown_source : (c : CommandView) (f : Followed) (out : Printing → Type 0) → out nothing → (patterns : List PatternView) → patterns ≡ c.imports
    → (e : WhyFault) → IsUnknownOf (module_value f.code).imports patterns e → IsFollowedCause c f out e
unknown_source c f out still patterns are Memory h = tt
unknown_source c f out still patterns are (NoImport p near) h = (subst (λ ps. IsNoImport (module_value f.code).imports ps p near) are h, still)
unknown_source c f out still patterns are e h = absurd h

-- what was printed of a tree is that of the paths to what is asked for
pub tree_printed : {T : Type 0} (c : CommandView) (source : FollowedView) (bytes : List ℕ) (patterns : List PatternView) (fs : List TreeCallerView)
    (t : TreeView) (out : Printing → Type 0) (r : Result T WhyFault) → AreAskedOf bytes (length source.code.funcs) c.functions fs
    → IsFollowedTree source bytes patterns fs t → OnOk r (PrintsSome (IsTreeText false c t) out)
    → OnOk r (PrintsSome (IsSourceText c source bytes patterns) out)
tree_printed c source bytes patterns fs t out (Ok x) are is (text, shows, shown) =
    (text, record { functions = fs; are_functions = are; tree = t; is_tree = is; is = shows }, shown)
tree_printed c source bytes patterns fs t out (Err e) are is h = tt

-- what was printed of a module that is followed, or why it could not be
module _ (c : CommandView) (bytes : List ℕ) (f : Followed) (is : IsSource bytes c.exports f) (out : Printing → Type 0) where
  pub source_of : (allow : Option AllowView) (r : Result Said WhyFault) → IfOk r (λ said. PrintsSome (IsSourceAnswer c f allow (said_view said)) out)
      → IfOk r (λ said. PrintsSome (IsPrintedOf c bytes allow (said_view said)) out)
  source_of allow (Ok said) (text, shows, shown) = (
    text,
    record {
      source = followed_view f;
      followed = is.followed;
      is = subst (λ b. IsAnswer c false (IsSourceText c (followed_view f) b) (module_value f.code).imports (AreImportNames (module_value f.code).imports)
          allow (said_view said) text) is.spelled shows;
    },
    shown,
  )
  source_of allow (Err e) h = tt

  source_cause : (e : WhyFault) → IsFollowedCause c f out e → IsPrintCause c bytes out e
  source_cause Memory h = tt
  source_cause Output h = h
  source_cause (NoImport p near) h = ((followed_view f, is.followed, h.0), h.1)
  source_cause (Source g place near) h = absurd h.0.4
  source_cause e h = ((followed_view f, is.followed, subst (λ b. IsFunctionFault c b (length (followed_view f).code.funcs) e) is.spelled h.0), h.1)

  pub some_source_cause : {T : Type 0} (r : Result T WhyFault) → IfErr r (IsFollowedCause c f out) → IfErr r (IsPrintCause c bytes out)
  some_source_cause (Ok x) h = tt
  some_source_cause (Err e) h = source_cause e h
