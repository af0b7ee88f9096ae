use Rattle.std.proofs.Common.{◌∙◌, ◌∷◌, [], List, ap, string_bytes, subst, ℕ}
use Rattle.json.specs.Json.{string}
use Rattle.json.specs.Token.{string as token}
use Rattle.wc_why_text.specs.Private.Tokens.{Puts}
use Rattle.wc_why_text.proofs.TokenLemmas.{wrote}
use Rattle.wc_summary.proofs.SummaryTextLemmas.{values_more, values_none}
use Rattle.wc_summary.proofs.summary_json.put_texts.Goals as goal

pub loop-text-init : goal.loop-text-init
loop-text-init c = values_none c.args.out.now

pub loop-text-preserved : goal.loop-text-preserved
loop-text-preserved c =
    values_more string_bytes string c.args.texts.now c.loop-text.text-index c.text-item.result c.loop-text-test.true c.loop-text.invariant
    (subst (λ (z : List ℕ). Puts c.loop-text.out c.string.new.self (token z ∷ [])) (c.deref.ensures ∙ ap string_bytes c.text-item.is) (wrote c.in_ok-string.ensures))
