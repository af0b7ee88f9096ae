use Rattle.std.proofs.Common.{◌≡◌, ◌∙◌, ◌++◌, [], ap, length, rules, string_bytes, true, vec_len, ℕ}
use Rattle.std.specs.Prelude.{◌==◌}
use Rattle.std.proofs.lemmas.Result.{IfOk-weaker}
use Rattle.wc_why.specs.Tree.{tree_view}
use Rattle.wc_why_text.specs.TreeLines.{tree_lines}
use Rattle.wc_world.specs.WorldViews.{world_view}
use Rattle.wc_ways.proofs.WaysLemmas.{text_none, text_some}
use Rattle.wc_ways.proofs.ways.text_of.Goals as goal

pub returns-then-is_empty : goal.returns-then-is_empty
returns-then-is_empty c =
    let tree = c.args.tree.now in
    let n : vec_len tree.ways ≡ length tree.ways.items = search rules in
    IfOk-weaker c.none_text.result _ _ (λ s is. is ∙ text_none (world_view c.args.world.now) c.args.key.now (tree_view tree) tree.ways.items (c.if-is_empty.ensures ∙ ap (λ (k : ℕ). k == 0) n)) c.none_text.ensures

pub returns : goal.returns
returns c =
    let tree = c.args.tree.now in
    let n : vec_len tree.ways ≡ length tree.ways.items = search rules in
    let none : string_bytes c.new-text.result ≡ [] = search rules in
    c.in_ok-push_lines.ensures
    ∙ (ap (λ z. z ++ tree_lines true (tree_view tree)) none
    ∙ text_some (world_view c.args.world.now) c.args.key.now (tree_view tree) tree.ways.items (c.if-is_empty.ensures ∙ ap (λ (k : ℕ). k == 0) n))
