use Rattle.std.proofs.Common.{◌≡◌, map, take, ap, sym, ◌∙◌, arith}
use Rattle.std.proofs.lemmas.List.{take-map, take_min}
use Rattle.wc_maps.specs.Texts.{text_of}
use Rattle.wc_component_file.specs.Listing.{words_text}
use Rattle.wc_component_file.proofs.listing.words_text.Goals as goal

pub returns : goal.returns
returns c =
    let same : c.loop-index.index ≡ c.at_most-index-end.result = omega arith in
    let names = c.args.names.now in
    let first = ap (λ i. take i names) (same ∙ c.at_most-index-end.ensures.value) ∙ take_min 8 names in
    c.loop-index.invariant ∙ (ap (λ l. words_text (map text_of l)) first ∙ ap words_text (sym (take-map text_of 8 names)))
