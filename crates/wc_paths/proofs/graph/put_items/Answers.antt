use Rattle.std.proofs.Common.{refl, sym, append-nil}
use Rattle.std.proofs.lemmas.Option.{slice_get-map, slice_get_read}
use Rattle.wc_graph.proofs.ListLemmas.{no_item}
use Rattle.wc_segments.specs.Data.{data_value}
use Rattle.wc_segments.specs.Elements.{element_value}
use Rattle.wc_paths.proofs.graph.put_items.Goals as goal

pub returns-in-None-clause-names : goal.returns-in-None-clause-names
returns-in-None-clause-names c =
    let past = rw c.deref.ensures.value at c.in-None.ensures.lookup.0 in
    rw (c.in-Elements.is, slice_get-map element_value c.args.segments.now.elements.items c.in-Elements.index, no_item _ _ past) (sym (append-nil c.args.names.now.items))

pub returns-in_ok-put_data-in-Some-get-clause-names : goal.returns-in_ok-put_data-in-Some-get-clause-names
returns-in_ok-put_data-in-Some-get-clause-names c =
    let at = rw c.deref-in-Data.ensures.value at (slice_get_read _ _ _ _ refl c.in-Some-get.ensures.lookup.3.0 c.in-Some-get.ensures.lookup.1) in
    rw (c.in-Data.is, slice_get-map data_value c.args.segments.now.«data».items c.in-Data.index, at) c.in_ok-put_data-in-Some-get.ensures

pub returns-in-None-get-clause-names : goal.returns-in-None-get-clause-names
returns-in-None-get-clause-names c =
    let past = rw c.deref-in-Data.ensures.value at c.in-None-get.ensures.lookup.0 in
    rw (c.in-Data.is, slice_get-map data_value c.args.segments.now.«data».items c.in-Data.index, no_item _ _ past) (sym (append-nil c.args.names.now.items))
