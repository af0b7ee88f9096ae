-- The paths to the imports of a module, as JSON.
use Rattle.std.specs.Prelude.{◌≡◌, ℕ, List, [], ◌++◌, codes}
use Rattle.json.specs.Lex.{tokens}
use Rattle.json.specs.Print.{print}
use Rattle.json.specs.Tree.{json_tokens}
use Rattle.wc_why.specs.Tree.{TreeView}
use Rattle.wc_why_text.specs.PathsJson.{paths_json}
use Rattle.wc_import_paths.specs.Patterns.{PatternView}
use Rattle.wc_import_paths.specs.Shown.{IsTreeFor}

-- the text is that of the paths of a tree, in a line; it is read back
pub record IsPathsJson (t : TreeView) (text : List ℕ) : Type 0 where
  pub is : text ≡ print (json_tokens (paths_json t)) ++ codes "\n"
  pub back : tokens (print (json_tokens (paths_json t))) ≡ json_tokens (paths_json t)

-- the text is that of the paths in the module that these bytes spell, from these exports to these imports
pub record IsPathsText (bytes : List ℕ) (exports : List (List ℕ)) (patterns : List PatternView) (text : List ℕ) : Type 0 where
  pub tree : TreeView
  pub is_tree : IsTreeFor bytes exports patterns [] tree
  pub is : IsPathsJson tree text
