use Rattle.std.proofs.Common.{◌≡◌, ◌∙◌, IfOk, List, ap, map, subst}
use Rattle.wc_resolve.specs.Views.{KeyView, key_view}
use Rattle.wc_selection.specs.KeyIndex.{keys_under}
use Rattle.wc_maps.specs.Texts.{text_of}
use Rattle.wc_json.specs.Messages.{adapter_message_view, key_message_view}
use Rattle.wc_calls.specs.AskedKeys.{key_texts}
use Rattle.wc_calls.proofs.AskedKeyLemmas.{adapter_keys_under}
use Rattle.wc_calls.proofs.asked_keys.adapter_keys.Goals as goal

pub returns : goal.returns
returns c =
    let texts = ap (map text_of) c.deref-2.ensures.value ∙ c.in_ok-texts.ensures ∙ ap (λ ks. key_texts (map key_message_view ks)) c.deref.ensures.value in
    subst (λ (ks : List KeyView). IfOk c.keys_under.result (λ set. map key_view set.keys ≡ ks))
    (ap (λ ts. keys_under ts c.args.index.now) texts ∙ adapter_keys_under c.args.index.now (adapter_message_view c.args.adapter.now))
    c.keys_under.ensures
