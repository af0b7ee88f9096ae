use Rattle.std.proofs.Common.{◌≡◌, ◌<◌, length, map, get_or, refl, sym, ap, ◌∙◌, rules}
use Rattle.std.proofs.lemmas.List.{length-map}
use Rattle.std.proofs.lemmas.List.Elements.{Contains-get_or}
use Rattle.wc_resolve.specs.Views.{type_view}
use Rattle.wc_resolve.specs.Kinds.{kind_at}
use Rattle.wc_resolve.specs.Resources.{is_resource_kind}
use Rattle.wc_resolve.proofs.ResourceFlagLemmas.{resource_flags_start, resource_flags_step, resource_flags_end}
use Rattle.wc_resolve.proofs.validate.resources.find_resources.Goals as goal

pub loop-index-init : goal.loop-index-init
loop-index-init c = rw (c.in_ok-resource_flags.ensures.items_if_clones_equal (λ y h. h)) (resource_flags_start (map type_view c.args.types.now) (length c.args.types.now) (sym (length-map c.args.types.now type_view)))

pub is_resource-requires : goal.is_resource-requires
is_resource-requires c = c.requires.within (get_or c.args.order.now c.loop-index.index-index 0) (Contains-get_or c.args.order.now c.loop-index.index-index 0 c.loop-index-test.true)

pub index_mut-requires : goal.index_mut-requires
index_mut-requires c =
    let bound : get_or c.args.order.now c.loop-index.index-index 0 < length c.args.types.now = c.requires.within (get_or c.args.order.now c.loop-index.index-index 0) (Contains-get_or c.args.order.now c.loop-index.index-index 0 c.loop-index-test.true) in
    let same_length : length c.loop-index.resource_flags.items ≡ length c.args.types.now = c.loop-index.invariant.same_length ∙ length-map c.args.types.now type_view in
    let small : get_or c.args.order.now c.loop-index.index-index 0 < length c.loop-index.resource_flags.items = rw same_length bound in
    search (rules, small)

pub loop-index-preserved : goal.loop-index-preserved
loop-index-preserved c =
    let bound : get_or c.args.order.now c.loop-index.index-index 0 < length c.args.types.now = c.requires.within (get_or c.args.order.now c.loop-index.index-index 0) (Contains-get_or c.args.order.now c.loop-index.index-index 0 c.loop-index-test.true) in
    let made : c.is_resource.result ≡ is_resource_kind c.loop-index.resource_flags.items (kind_at (map type_view c.args.types.now) (get_or c.args.order.now c.loop-index.index-index 0)) =
    c.is_resource.ensures ∙ ap (λ m. is_resource_kind m (kind_at (map type_view c.args.types.now) (get_or c.args.order.now c.loop-index.index-index 0))) c.deref.ensures.value in
    resource_flags_step (map type_view c.args.types.now) c.args.order.now c.loop-index.resource_flags.items c.loop-index.index-index (get_or c.args.order.now c.loop-index.index-index 0) c.is_resource.result
    c.requires.first c.loop-index-test.true refl (rw (length-map c.args.types.now type_view) bound) made c.loop-index.invariant

pub returns : goal.returns
returns c = resource_flags_end (map type_view c.args.types.now) c.args.order.now c.loop-index.resource_flags.items c.loop-index.index-index c.loop-index-test.false
    (λ x h. c.requires.all x (rw (length-map c.args.types.now type_view) at h)) c.loop-index.invariant
