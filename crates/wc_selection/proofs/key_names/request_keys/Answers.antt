use Rattle.std.proofs.Common.{◌≡◌, ◌∙◌, IfOk, ap, map, subst}
use Rattle.wc_selection.specs.KeyNames.{keys_as_given}
use Rattle.wc_selection.specs.Keys.{export_keys, named_key}
use Rattle.wc_selection.specs.Requests.{given_keys, request_value}
use Rattle.wc_maps.specs.Texts.{text_of}
use Rattle.wc_selection.proofs.key_names.request_keys.Goals as goal

pub returns-clause-keys : goal.returns-clause-keys
returns-clause-keys c =
    let given : map text_of c.deref.result.now ≡ given_keys (request_value c.args.request.now) =
    ap (map text_of) c.deref.ensures.value ∙ c.in_ok-given.ensures in
    let keys : map named_key c.deref-2.result.now ≡ export_keys c.args.resolve.now c.args.world.0 =
    ap (map named_key) c.deref-2.ensures.value ∙ c.in_ok-keys.ensures.keys in
    subst (λ g. IfOk c.keys_as_given.result (λ v. map named_key v.items ≡ keys_as_given g (export_keys c.args.resolve.now c.args.world.0))) given
    (subst (λ k. IfOk c.keys_as_given.result (λ v. map named_key v.items ≡ keys_as_given (map text_of c.deref.result.now) k)) keys
    c.keys_as_given.ensures.keys)
