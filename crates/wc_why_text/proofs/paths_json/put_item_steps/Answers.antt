use Rattle.std.proofs.Common.{◌≡◌, ◌∙◌, Option, ap, map, subst}
use Rattle.std.specs.List.{flat_map}
use Rattle.std.specs.Option.{option_map}
use Rattle.json.specs.Tree.{json_tokens}
use Rattle.wc_why.specs.Texts.{text_of}
use Rattle.wc_why.specs.Tree.{TreeRootView, tree_item_view, tree_root_view}
use Rattle.wc_why_text.specs.PathsJson.{item_step, root_steps}
use Rattle.wc_why_text.specs.Private.Tokens.{Puts}
use Rattle.wc_why_text.specs.TreeLines.{root_at}
use Rattle.wc_why_text.proofs.StepLemmas.{put_after}
use Rattle.wc_why_text.proofs.paths_json.put_item_steps.Goals as goal

pub returns : goal.returns
returns c =
    let adapter = option_map text_of c.args.module.now.adapter in
    let roots = map tree_root_view c.args.module.now.roots.items in
    let item = c.args.item.now in
    let root : option_map tree_root_view c.root_at.result ≡ root_at roots item.root =
    c.root_at.ensures ∙ ap (λ l. root_at (map tree_root_view l) item.root) c.deref.ensures.value in
    put_after _ _ (root_steps adapter (root_at roots item.root)) (item_step (tree_item_view item))
    (subst (λ (o : Option TreeRootView). Puts c.args.out.now c.put_root_steps.new.out (flat_map json_tokens (root_steps adapter o))) root
    c.in_ok-put_root_steps.ensures) c.put_item_step.ensures
