use Rattle.std.proofs.Common.{OnOk, codes, ◌∷◌, ap, map, ◌∙◌, subst, sym}
use Rattle.json.specs.Token.{key}
use Rattle.json.specs.Tree.{json_tokens}
use Rattle.wc_why_text.specs.Private.Tokens.{Puts}
use Rattle.wc_why.specs.Tree.{tree_caller_view}
use Rattle.wc_why_text.specs.TreeJson.{callers_json, some_callers_json}
use Rattle.wc_why_text.proofs.TreeTokenLemmas.{shown_view}
use Rattle.wc_why_text.proofs.tree_json.put_callers.Goals as goal

pub returns-in-Some : goal.returns-in-Some
returns-in-Some c =
    let old = c.args.out.now in
    let list = c.args.list.now in
    subst (λ z. OnOk c.put_some_callers.result (Puts old c.put_some_callers.new.out (key (codes "callers") ∷ json_tokens (callers_json (map tree_caller_view list) z))))
    (sym c.in-Some.is)
    (subst (λ z. OnOk c.put_some_callers.result (Puts old c.put_some_callers.new.out (key (codes "callers") ∷ json_tokens (some_callers_json z c.in-Some.callers.count))))
    (ap (map tree_caller_view) c.shown_callers.ensures ∙ shown_view c.in-Some.callers tree_caller_view list) c.put_some_callers.ensures)
