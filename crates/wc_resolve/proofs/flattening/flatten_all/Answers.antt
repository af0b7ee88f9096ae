use Rattle.std.proofs.Common.{◌≡◌, ◌+◌, ◌<◌, List, Vec, length, map, take, get_or, refl, sym, ap, ◌∙◌, subst, rules}
use Rattle.std.specs.declared.alloc.Global.{Global}
use Rattle.std.proofs.lemmas.List.{length-map}
use Rattle.std.proofs.lemmas.List.Elements.{Contains-get_or}
use Rattle.wc_resolve.specs.declared.flat.WasmType.{WasmType}
use Rattle.wc_resolve.specs.Flat.{flat_entry, flat_rule, flat_types_kept, lists}
use Rattle.wc_resolve.specs.Views.{type_view}
use Rattle.wc_resolve.specs.Kinds.{kind_at}
use Rattle.wc_resolve.proofs.FlatTableLemmas.{FlatsOf, flats_start, flats_step, flats_end, lists-set}
use Rattle.wc_resolve.proofs.flattening.flatten_all.Goals as goal

pub loop-index-init : goal.loop-index-init
loop-index-init c = flats_start (map type_view c.args.types.now) (length c.args.types.now) (lists c.in_ok-flats.flats.items) c.in_ok-flats.ensures (sym (length-map c.args.types.now type_view))

pub flat_at-requires : goal.flat_at-requires
flat_at-requires c =
    rw length-map at (c.requires.within (get_or c.args.order.now c.loop-index.index-index 0) (Contains-get_or c.args.order.now c.loop-index.index-index 0 c.loop-index-test.true))

pub index_mut-requires : goal.index_mut-requires
index_mut-requires c =
    let bound : get_or c.args.order.now c.loop-index.index-index 0 < length (map type_view c.args.types.now) = c.requires.within (get_or c.args.order.now c.loop-index.index-index 0) (Contains-get_or c.args.order.now c.loop-index.index-index 0 c.loop-index-test.true) in
    let same_length : length c.loop-index.flats.items ≡ length (map type_view c.args.types.now) = sym (length-map c.loop-index.flats.items (λ (v : Vec WasmType Global). v.items)) ∙ c.loop-index.invariant.same_length in
    let small : get_or c.args.order.now c.loop-index.index-index 0 < length c.loop-index.flats.items = rw same_length bound in
    search (rules, small)

pub loop-index-preserved : goal.loop-index-preserved
loop-index-preserved c =
    let bound : get_or c.args.order.now c.loop-index.index-index 0 < length (map type_view c.args.types.now) = c.requires.within (get_or c.args.order.now c.loop-index.index-index 0) (Contains-get_or c.args.order.now c.loop-index.index-index 0 c.loop-index-test.true) in
    let made : c.in_ok-flat.flat.items ≡ take flat_types_kept (flat_rule (flat_entry (lists c.loop-index.flats.items)) (get_or c.args.order.now c.loop-index.index-index 0) (kind_at (map type_view c.args.types.now) (get_or c.args.order.now c.loop-index.index-index 0))) =
    c.in_ok-flat.ensures ∙ ap (λ z. take flat_types_kept (flat_rule (flat_entry (lists z)) (get_or c.args.order.now c.loop-index.index-index 0) (kind_at (map type_view c.args.types.now) (get_or c.args.order.now c.loop-index.index-index 0)))) c.deref.ensures.value in
    subst (λ (z : List (List WasmType)). FlatsOf (map type_view c.args.types.now) z (take (c.loop-index.index-index + 1) c.args.order.now))
    (sym (lists-set c.loop-index.flats.items (get_or c.args.order.now c.loop-index.index-index 0) c.in_ok-flat.flat))
    (flats_step (map type_view c.args.types.now) c.args.order.now (lists c.loop-index.flats.items) c.loop-index.index-index (get_or c.args.order.now c.loop-index.index-index 0) c.in_ok-flat.flat.items
    c.requires c.loop-index-test.true refl bound made c.loop-index.invariant)

pub returns : goal.returns
returns c = flats_end (map type_view c.args.types.now) c.args.order.now (lists c.loop-index.flats.items) c.loop-index.index-index c.requires c.loop-index-test.false c.loop-index.invariant
