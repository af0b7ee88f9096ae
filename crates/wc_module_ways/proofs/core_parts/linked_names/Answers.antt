use Rattle.std.proofs.Common.{◌≡◌, ◌∙◌, IfOk, List, ℕ, ap, map, subst}
use Rattle.wc_maps.specs.Texts.{HasTexts}
use Rattle.wc_texts.specs.Names.{first_occurrences}
use Rattle.wc_read.specs.Exports.{ExportValue, export_value}
use Rattle.wc_why.specs.Texts.{text_of}
use Rattle.wc_module_ways.specs.CoreParts.{linked_name}
use Rattle.wc_module_ways.proofs.core_parts.linked_names.Goals as goal

pub returns : goal.returns
returns c imports are =
    let core = c.args.core.now in
    let exports = map export_value core.followed.code.exports.items in
    let names = map (λ (e : ExportValue). e.name) exports in
    let same : map text_of c.deref-2.result.now ≡ names =
    ap (map text_of) c.deref-2.ensures.value
    ∙ (c.in_ok-names.ensures ∙ ap (λ z. map (λ (e : ExportValue). e.name) (map export_value z)) c.deref.ensures.value) in
    let has : HasTexts names (map text_of c.in_ok-there.there.keys) = subst (λ z. HasTexts z (map text_of c.in_ok-there.there.keys)) same c.in_ok-there.ensures in
    subst (λ (z : List (List ℕ)). IfOk c.linked_among.result (λ s. map text_of s.keys ≡ first_occurrences (map (linked_name names) z)))
    (c.imported_names.ensures imports are) (c.linked_among.ensures names has)
