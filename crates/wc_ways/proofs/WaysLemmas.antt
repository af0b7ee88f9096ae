-- The tree of the paths to what is asked about, by what the code has.
use Rattle.std.proofs.Common.{◌≡◌, ◌++◌, ℕ, Bool, true, false, List, [], ◌∷◌, Vec, Global, Result, Ok, Err, IfOk, codes, length, map, true≢false, refl, sym, ap, subst}
use Rattle.std.specs.Prelude.{◌==◌}
use Rattle.json.specs.Lex.{tokens}
use Rattle.json.specs.Print.{print}
use Rattle.json.specs.Tree.{json_tokens}
use Rattle.wc_why.specs.Part.{PartView, part_view}
use Rattle.wc_read.proofs.ModulesLemmas.{no_length}
use Rattle.wc_why.specs.Tree.{TreeView, tree_way_view}
use Rattle.wc_why.specs.declared.tree.TreeWay.{TreeWay}
use Rattle.wc_why_text.specs.TreeJson.{tree_json}
use Rattle.wc_why_text.specs.TreeLines.{tree_lines}
use Rattle.wc_world.specs.Views.{ComponentWorldView}
use Rattle.wc_ways.specs.Wanted.{WantedView}
use Rattle.wc_ways.specs.Ways.{none_text, ways_text}
use Rattle.wc_ways.specs.WaysTree.{IsTreeTo, IsWaysJson, IsWaysTree, wanted_in}
use Rattle.wc_ways.specs.Private.Shown.{IsShown}
use Rattle.wc_ways.specs.Private.Wanted.{wanted_view}
use Rattle.wc_ways.specs.declared.tree.Shown.{Shown}

pub ways_tree : (w : ComponentWorldView) (key : List ℕ) (s : Shown) (t : TreeView) → IsShown w key s
    → IsTreeTo (map part_view s.parts.items) (map wanted_view s.wanted.items) s.marked t → IsWaysTree w key t
ways_tree w key s t shown to =
    let parts : List PartView = map part_view s.parts.items in
    record {
      main = shown.main;
      modules = shown.modules;
      parts = parts;
      are_parts = shown.are_parts;
      is_tree = subst (λ (b : Bool). IsTreeTo parts (wanted_in w key shown.main shown.modules) b t) shown.marked
          (subst (λ (v : List WantedView). IsTreeTo parts v s.marked t) shown.wanted to);
    }

-- what two clauses say of its JSON
pub ways_json : {E : Type 0} (w : ComponentWorldView) (key : List ℕ) (t : TreeView) (r : Result (Vec ℕ Global) E) → IsWaysTree w key t
    → IfOk r (λ v. v.items ≡ print (json_tokens (tree_json t)) ++ codes "\n")
    → IfOk r (λ v. tokens (print (json_tokens (tree_json t))) ≡ json_tokens (tree_json t)) → IfOk r (λ v. IsWaysJson w key v.items)
ways_json w key t (Ok v) tree text back = (t, tree, text, back)
ways_json w key t (Err e) tree text back = tt

-- its lines; or that it has no paths
pub text_none : (w : ComponentWorldView) (key : List ℕ) (t : TreeView) (ways : List TreeWay) → true ≡ (length ways == 0)
    → none_text w key ≡ ways_text w key t (map tree_way_view ways)
text_none w key t ways none = ap (λ (z : List TreeWay). ways_text w key t (map tree_way_view z)) (sym (no_length ways (sym none)))

pub text_some : (w : ComponentWorldView) (key : List ℕ) (t : TreeView) (ways : List TreeWay) → false ≡ (length ways == 0)
    → tree_lines true t ≡ ways_text w key t (map tree_way_view ways)
text_some w key t [] some = absurd (true≢false (sym some))
text_some w key t (way ∷ ways) some = refl
