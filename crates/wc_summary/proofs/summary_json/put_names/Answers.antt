use Rattle.std.proofs.Common.{◌≡◌, ◌∙◌, ◌∷◌, [], List, ℕ, ap, arith, length, string_bytes, subst}
use Rattle.json.specs.Json.{string}
use Rattle.json.specs.Token.{string as token}
use Rattle.wc_why_text.specs.Private.Tokens.{Puts}
use Rattle.wc_why_text.proofs.TokenLemmas.{both, list_done, list_more, wrote, wrote_last}
use Rattle.wc_summary.proofs.summary_json.put_names.Goals as goal

pub loop-name-init : goal.loop-name-init
loop-name-init c = both (wrote c.in_ok-key.ensures) (wrote c.in_ok-begin_array.ensures)

pub loop-name-preserved : goal.loop-name-preserved
loop-name-preserved c =
    list_more c.args.member.now string string_bytes c.args.names.now c.loop-name.name-index c.name-item.result c.loop-name-test.true c.loop-name.invariant
    (subst (λ (z : List ℕ). Puts c.loop-name.out c.string.new.self (token z ∷ [])) (c.deref.ensures ∙ ap string_bytes c.name-item.is) (wrote c.in_ok-string.ensures))

pub returns : goal.returns
returns c =
    let end : c.loop-name.name-index ≡ length c.args.names.now = omega (arith, c.loop-name-test.false, c.loop-name.auto.name-index-end) in
    list_done c.args.member.now string string_bytes c.args.names.now _ c.loop-name.name-index c.end_array.result end c.loop-name.invariant (wrote_last _ _ _ _ c.end_array.ensures)
