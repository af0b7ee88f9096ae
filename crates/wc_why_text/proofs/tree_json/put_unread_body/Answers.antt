use Rattle.std.proofs.Common.{OnOk, rules, subst}
use Rattle.json.specs.Tree.{json_tokens}
use Rattle.wc_why_text.specs.Private.Tokens.{Puts}
use Rattle.wc_why_text.specs.TreeJson.{unread_json}
use Rattle.wc_why_text.proofs.tree_json.put_unread_body.Goals as goal

pub returns : goal.returns
returns c =
    subst (λ z. OnOk c.put_unread.result (Puts c.args.out.now c.put_unread.new.out (json_tokens (unread_json z)))) (search rules) c.put_unread.ensures
