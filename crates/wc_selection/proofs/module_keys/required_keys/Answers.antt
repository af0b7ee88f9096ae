use Rattle.std.proofs.Common.{◌≡◌, ◌∙◌, IfOk, ap, map, subst}
use Rattle.wc_resolve.specs.Views.{key_view}
use Rattle.wc_selection.proofs.RequiredLemmas.{required_found}
use Rattle.wc_selection.proofs.module_keys.required_keys.Goals as goal
use Rattle.wc_selection.specs.Keys.{named_key}
use Rattle.wc_selection.specs.Requests.{exporter_name, request_value}
use Rattle.wc_maps.specs.Texts.{HasTexts, text_of}

pub returns : goal.returns
returns c =
    let set = map text_of c.in_ok-set.set.keys in
    let has = subst (λ l. HasTexts l set) (ap (map text_of) c.deref.ensures.value ∙ c.in_ok-texts.ensures) c.in_ok-set.ensures in
    subst (λ keys. IfOk c.required_in.result (λ s. map key_view s.keys ≡ keys))
    (required_found (request_value c.args.request.now) (exporter_name c.args.exporter) set c.gives_keys.result c.gives_keys.ensures has
    (map named_key c.args.keys.now)) c.required_in.ensures
