-- Texts of trees that are put, and then handed on.
use Rattle.std.proofs.Common.{◌≡◌, ℕ, Bool, false, List, Option, Result, Ok, Err, OnOk, refl, sym, subst}
use Rattle.std.proofs.KnownBytes.{Appends-kept}
use Rattle.std.specs.Io.KnownBytes.{Appends, Keeps}
use Rattle.wc_program.specs.Screen.{HandsOn}
use Rattle.wc_why.specs.Tree.{TreeView}
use Rattle.wc_why_text.specs.TreeLines.{tree_lines}
use Rattle.wcwhy.specs.Private.Puts.{PutsSome}
use Rattle.wcwhy.specs.Tree.{IsTextBy}

-- bytes that were put, and then handed on
pub handed_on : (a b c s : Option (List ℕ)) (text : List ℕ) → Appends a b text → Keeps b c → Keeps b s → HandsOn a c s text
handed_on a b c s text put kept sent = record { put = Appends-kept a b c text put kept; sent = Appends-kept a b s text put sent }

-- lines that were put, where neither a graph nor JSON is asked for
pub lines_put : {T E : Type 0} (t : TreeView) (a b : Option (List ℕ)) (r : Result T E) (dot json of_component : Bool) → dot ≡ false → json ≡ false
    → OnOk r (Appends a b (tree_lines of_component t)) → OnOk r (PutsSome (IsTextBy dot json of_component t) a b)
lines_put t a b (Ok x) dot json of_component no_dot no_json put = (
  tree_lines of_component t,
  subst (λ d. IsTextBy d json of_component t (tree_lines of_component t)) (sym no_dot)
      (subst (λ j. IsTextBy false j of_component t (tree_lines of_component t)) (sym no_json) refl),
  put,
)
lines_put t a b (Err e) dot json of_component no_dot no_json put = tt
