-- The text of the paths in a module that is followed.
use Rattle.std.proofs.Common.{◌≡◌, ℕ, List, [], ◌++◌, Result, Ok, Err, IfOk, Global, subst}
use Rattle.std.specs.Prelude.{codes}
use Rattle.std.specs.declared.vec.Vec.{Vec}
use Rattle.json.specs.Lex.{tokens}
use Rattle.json.specs.Print.{print}
use Rattle.json.specs.Tree.{json_tokens}
use Rattle.wc_why.specs.Tree.{TreeCallerView, TreeView}
use Rattle.wc_why_text.specs.PathsJson.{paths_json}
use Rattle.wc_import_paths.specs.Followed.{IsSource, followed_view}
use Rattle.wc_import_paths.specs.JsonPaths.{IsPathsText}
use Rattle.wc_import_paths.specs.Patterns.{PatternView}
use Rattle.wc_import_paths.specs.Shown.{IsFollowedTree, IsTreeFor}
use Rattle.wc_import_paths.specs.declared.followed.Followed.{Followed}

pub tree_for : (bytes : List ℕ) (exports : List (List ℕ)) (patterns : List PatternView) (f : Followed) → IsSource bytes exports f
    → (fs : List TreeCallerView) → fs ≡ [] → (t : TreeView) → IsFollowedTree (followed_view f) f.bytes.now patterns fs t
    → IsTreeFor bytes exports patterns [] t
tree_for bytes exports patterns f h fs none t tree = record {
  source = followed_view f;
  followed = h.followed;
  is_tree = subst (λ z. IsFollowedTree (followed_view f) z patterns [] t) h.spelled
      (subst (λ z. IsFollowedTree (followed_view f) f.bytes.now patterns z t) none tree);
}

pub paths_text : {E : Type 0} (bytes : List ℕ) (exports : List (List ℕ)) (patterns : List PatternView) (t : TreeView)
    → IsTreeFor bytes exports patterns [] t → (r : Result (Vec ℕ Global) E)
    → IfOk r (λ v. v.items ≡ print (json_tokens (paths_json t)) ++ codes "\n")
    → IfOk r (λ _. tokens (print (json_tokens (paths_json t))) ≡ json_tokens (paths_json t)) → IfOk r (λ v. IsPathsText bytes exports patterns v.items)
paths_text bytes exports patterns t h (Ok v) is back = record { tree = t; is_tree = h; is = record { is = is; back = back } }
paths_text bytes exports patterns t h (Err e) is back = tt
