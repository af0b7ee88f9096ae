use Rattle.std.proofs.Common.{◌≡◌, ◌∙◌, ap, arith, length, map, sym}
use Rattle.std.proofs.lemmas.List.{length-map}
use Rattle.wc_maps.specs.Texts.{text_of}
use Rattle.wcplan_inputs.specs.SharedKeys.{exporters, named_pairs}
use Rattle.wcplan_inputs.specs.Private.SharedKeys.{adapter_view, asked_view, names_view}
use Rattle.wcplan_inputs.proofs.SharedKeyLemmas.{single_name}
use Rattle.wcplan_inputs.proofs.shared_keys.only_exporter.Goals as goal

pub not_one_exporter-requires-clause-several : goal.not_one_exporter-requires-clause-several
not_one_exporter-requires-clause-several c =
    let q = asked_view c.args.asked.now in
    let found = c.in_ok-found.found in
    let all : map text_of found.items ≡ exporters q (names_view c.args.names.now).adapters =
    c.in_ok-found.ensures ∙ ap (λ l. exporters q (map adapter_view l)) c.deref.ensures.value in
    λ one.
    let single : length found.items ≡ 1 = sym (length-map found.items text_of) ∙ ap length all ∙ one in
    c.if-len-ne1.true (omega (arith, single, c.len.ensures, found.ok.0))

pub returns-clause-pairs : goal.returns-clause-pairs
returns-clause-pairs c =
    let q = asked_view c.args.asked.now in
    let found = c.in_ok-found.found in
    ap (named_pairs q.text) (single_name found.items c.index.result.now (omega (arith, c.if-len-ne1.false, c.len.ensures, found.ok.0)) c.index.ensures
    ∙ c.in_ok-found.ensures ∙ ap (λ l. exporters q (map adapter_view l)) c.deref.ensures.value)

pub returns-clause-one : goal.returns-clause-one
returns-clause-one c =
    let q = asked_view c.args.asked.now in
    let found = c.in_ok-found.found in
    ap length (sym (single_name found.items c.index.result.now (omega (arith, c.if-len-ne1.false, c.len.ensures, found.ok.0)) c.index.ensures
    ∙ c.in_ok-found.ensures ∙ ap (λ l. exporters q (map adapter_view l)) c.deref.ensures.value))
