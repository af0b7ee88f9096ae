use Rattle.std.proofs.Common.{◌≡◌, ◌∙◌, ◌∷◌, [], List, ℕ, ap, arith, codes, length, string_bytes, subst}
use Rattle.json.specs.Json.{string}
use Rattle.json.specs.Token.{string as token}
use Rattle.wc_why_text.specs.Private.Tokens.{Puts}
use Rattle.wc_why_text.proofs.TokenLemmas.{both, list_done, list_more, wrote, wrote_last}
use Rattle.wc_component_calls.proofs.places.put_list.Goals as goal

pub loop-import-init : goal.loop-import-init
loop-import-init c = both (wrote c.in_ok-key.ensures) (wrote c.in_ok-begin_array.ensures)

pub loop-import-preserved : goal.loop-import-preserved
loop-import-preserved c =
    list_more (codes "imports") string string_bytes c.args.imports.now c.loop-import.import-index c.import-item.result c.loop-import-test.true c.loop-import.invariant
    (subst (λ (z : List ℕ). Puts c.loop-import.out c.string.new.self (token z ∷ [])) (c.deref.ensures ∙ ap string_bytes c.import-item.is) (wrote c.in_ok-string.ensures))

pub returns : goal.returns
returns c =
    let end : c.loop-import.import-index ≡ length c.args.imports.now = omega (arith, c.loop-import-test.false, c.loop-import.auto.import-index-end) in
    list_done (codes "imports") string string_bytes c.args.imports.now _ c.loop-import.import-index c.end_array.result end c.loop-import.invariant (wrote_last _ _ _ _ c.end_array.ensures)
