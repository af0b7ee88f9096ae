use Rattle.std.proofs.Common.{OnOk, Option, sym, subst}
use Rattle.std.specs.List.{flat_map}
use Rattle.std.specs.Option.{option_map}
use Rattle.json.specs.Tree.{json_tokens}
use Rattle.wc_why.specs.Texts.{text_of}
use Rattle.wc_why.specs.Tree.{tree_root_view}
use Rattle.wc_why.specs.declared.tree.TreeRoot.{TreeRoot}
use Rattle.wc_why_text.specs.PathsJson.{root_step, root_steps}
use Rattle.wc_why_text.specs.Private.Tokens.{Puts}
use Rattle.wc_why_text.proofs.StepLemmas.{none_put, one_put}
use Rattle.wc_why_text.proofs.paths_json.put_root_steps.Goals as goal

pub returns-in-Some : goal.returns-in-Some
returns-in-Some c =
    let adapter = option_map text_of c.args.adapter in
    subst (λ (o : Option TreeRoot). OnOk c.put_root_step.result (Puts c.args.out.now c.put_root_step.new.out
    (flat_map json_tokens (root_steps adapter (option_map tree_root_view o))))) (sym c.in-Some.is)
    (one_put _ _ _ (root_step adapter (tree_root_view c.in-Some.root)) c.put_root_step.ensures)

pub returns-in-None : goal.returns-in-None
returns-in-None c =
    subst (λ (o : Option TreeRoot). Puts c.args.out.now c.args.out.now
    (flat_map json_tokens (root_steps (option_map text_of c.args.adapter) (option_map tree_root_view o)))) (sym c.in-None.is) (none_put c.args.out.now)
