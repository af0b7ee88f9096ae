use Rattle.std.proofs.Common.{◌∙◌, ap, option_map, refl, sym}
use Rattle.std.proofs.lemmas.Bool.{ltb-false}
use Rattle.std.proofs.lemmas.Option.{slice_get-map, slice_get_past, slice_get_read}
use Rattle.std.specs.Option.{option_and_then}
use Rattle.wc_ways.specs.Wanted.{WantedView, way_of}
use Rattle.wc_ways.specs.WaysTree.{end_at}
use Rattle.wc_ways.specs.Private.Wanted.{wanted_view}
use Rattle.wc_ways.proofs.tree.way_at.Goals as goal

pub returns-in-Some : goal.returns-in-Some
returns-in-Some c =
    let k = c.args.position in
    let at = slice_get_read _ _ _ _ refl c.in-Some.ensures.lookup.3.0 c.in-Some.ensures.lookup.1 in
    c.way_of.ensures ∙ ap (way_of (wanted_view c.in-Some.wanted.now)) c.end_at.ensures
    ∙ ap (option_and_then (λ (v : WantedView). way_of v (end_at c.args.ends.now k)))
    (sym (slice_get-map wanted_view c.args.wanted.now k ∙ ap (option_map wanted_view) at))

pub returns-in-None : goal.returns-in-None
returns-in-None c =
    let k = c.args.position in
    let past = slice_get_past _ _ (ltb-false _ _ (sym c.in-None.ensures.lookup.0)) in
    ap (option_and_then (λ (v : WantedView). way_of v (end_at c.args.ends.now k)))
    (sym (slice_get-map wanted_view c.args.wanted.now k ∙ ap (option_map wanted_view) past))
