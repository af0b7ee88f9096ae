use Rattle.std.proofs.Common.{◌≡◌, ◌∙◌, IfOk, ap, map, subst}
use Rattle.wc_selection.specs.KeyNames.{keys_as_given, keys_by_index}
use Rattle.wc_selection.specs.Keys.{named_key}
use Rattle.wc_selection.specs.Requests.{given_keys, request_value}
use Rattle.wc_maps.specs.Texts.{text_of}
use Rattle.wc_selection.proofs.key_names.indexed_keys.Goals as goal

pub returns-clause-keys : goal.returns-clause-keys
returns-clause-keys c =
    let asked = given_keys (request_value c.args.request.now) in
    let own = map named_key c.args.own.now in
    let first : map text_of c.deref.result.now ≡ asked = ap (map text_of) c.deref.ensures.value ∙ c.in_ok-given.ensures in
    let second : map text_of c.deref-2.result.now ≡ asked = ap (map text_of) c.deref-2.ensures.value ∙ c.in_ok-given.ensures in
    let keys : map named_key c.deref-3.result.now ≡ keys_as_given asked own =
    ap (map named_key) c.deref-3.ensures.value ∙ (c.in_ok-keys.ensures.keys ∙ ap (λ g. keys_as_given g own) first) in
    subst (λ g. IfOk c.keys_by_index.result (λ v. map named_key v.items ≡ keys_by_index g (keys_as_given asked own))) second
    (subst (λ k. IfOk c.keys_by_index.result (λ v. map named_key v.items ≡ keys_by_index (map text_of c.deref-2.result.now) k)) keys
    c.keys_by_index.ensures.keys)
