use Rattle.std.proofs.Common.{◌≡◌, ◌<◌, length, map, get_or, refl, sym, ap, ◌∙◌, rules}
use Rattle.std.proofs.lemmas.List.{length-map}
use Rattle.std.proofs.lemmas.List.Elements.{Contains-get_or}
use Rattle.wc_resolve.specs.Views.{type_view}
use Rattle.wc_resolve.specs.Kinds.{kind_at}
use Rattle.wc_resolve.specs.Contents.{text_flag, text_rule}
use Rattle.wc_resolve.proofs.ContentLemmas.{texts_start, texts_step, texts_end}
use Rattle.wc_resolve.proofs.contents.find_texts.Goals as goal

pub loop-index-init : goal.loop-index-init
loop-index-init c = rw (c.in_ok-flags.ensures.items_if_clones_equal (λ y h. h)) (texts_start c.args.lists (map type_view c.args.types.now) (length c.args.types.now) (sym (length-map c.args.types.now type_view)))

pub has_text_at-requires : goal.has_text_at-requires
has_text_at-requires c =
    rw length-map at (c.requires.within (get_or c.args.order.now c.loop-index.index-index 0) (Contains-get_or c.args.order.now c.loop-index.index-index 0 c.loop-index-test.true))

pub index_mut-requires : goal.index_mut-requires
index_mut-requires c =
    let bound : get_or c.args.order.now c.loop-index.index-index 0 < length (map type_view c.args.types.now) = c.requires.within (get_or c.args.order.now c.loop-index.index-index 0) (Contains-get_or c.args.order.now c.loop-index.index-index 0 c.loop-index-test.true) in
    let same_length : length c.loop-index.flags.items ≡ length (map type_view c.args.types.now) = c.loop-index.invariant.same_length in
    let small : get_or c.args.order.now c.loop-index.index-index 0 < length c.loop-index.flags.items = rw same_length bound in
    search (rules, small)

pub loop-index-preserved : goal.loop-index-preserved
loop-index-preserved c =
    let bound : get_or c.args.order.now c.loop-index.index-index 0 < length (map type_view c.args.types.now) = c.requires.within (get_or c.args.order.now c.loop-index.index-index 0) (Contains-get_or c.args.order.now c.loop-index.index-index 0 c.loop-index-test.true) in
    let made : c.has_text_at.result ≡ text_rule c.args.lists (text_flag c.loop-index.flags.items) (get_or c.args.order.now c.loop-index.index-index 0) (kind_at (map type_view c.args.types.now) (get_or c.args.order.now c.loop-index.index-index 0)) =
    c.has_text_at.ensures ∙ ap (λ m. text_rule c.args.lists (text_flag m) (get_or c.args.order.now c.loop-index.index-index 0) (kind_at (map type_view c.args.types.now) (get_or c.args.order.now c.loop-index.index-index 0))) c.deref.ensures.value in
    texts_step c.args.lists (map type_view c.args.types.now) c.args.order.now c.loop-index.flags.items c.loop-index.index-index (get_or c.args.order.now c.loop-index.index-index 0) c.has_text_at.result
    c.requires c.loop-index-test.true refl bound made c.loop-index.invariant

pub returns : goal.returns
returns c = texts_end c.args.lists (map type_view c.args.types.now) c.args.order.now c.loop-index.flags.items c.loop-index.index-index c.requires c.loop-index-test.false c.loop-index.invariant
