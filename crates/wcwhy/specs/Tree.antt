-- What is printed of a tree of paths: a graph, JSON, or lines.
use Rattle.std.specs.Prelude.{◌≡◌, ℕ, Bool, true, false, List, [], ◌++◌, codes}
use Rattle.json.specs.Lex.{tokens}
use Rattle.json.specs.Print.{print}
use Rattle.json.specs.Tree.{json_tokens}
use Rattle.wc_why.specs.Tree.{TreeView}
use Rattle.wc_why_text.specs.TreeGraph.{tree_graph}
use Rattle.wc_why_text.specs.TreeJson.{tree_json}
use Rattle.wc_why_text.specs.TreeLines.{tree_lines}
use Rattle.wcwhy.specs.Arguments.{CommandView}

-- its JSON in a line: it is read back
pub record IsTreeJson (t : TreeView) (text : List ℕ) : Type 0 where
  pub is : text ≡ print (json_tokens (tree_json t)) ++ codes "\n"
  pub back : tokens (print (json_tokens (tree_json t))) ≡ json_tokens (tree_json t)

-- a graph, JSON, or lines, which name the modules of a component

abbrev pub IsTextBy : Bool → Bool → Bool → TreeView → List ℕ → Type 0
IsTextBy true json of_component t text = text ≡ tree_graph t
IsTextBy false true of_component t text = IsTreeJson t text
IsTextBy false false of_component t text = text ≡ tree_lines of_component t

abbrev pub IsTreeText : Bool → CommandView → TreeView → List ℕ → Type 0
IsTreeText of_component c t text = IsTextBy c.dot c.json of_component t text

-- a tree without paths
abbrev pub no_paths : TreeView
no_paths = record { modules = []; ways = [] }
