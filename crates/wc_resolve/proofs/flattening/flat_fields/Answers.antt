use Rattle.std.proofs.Common.{◌≤◌, length, map, subst, take, ap, ◌∙◌}
use Rattle.wc_resolve.specs.Flat.{flat_entry, flat_types_kept, flatten_type, flatten_types, lists}
use Rattle.wc_resolve.proofs.FlatStepLemmas.{kept_all, types_more, part_read, part_small, all_parts, cut_small}
use Rattle.wc_resolve.proofs.flattening.flat_fields.Goals as goal

pub returns-then-is_full : goal.returns-then-is_full
returns-then-is_full c =
    kept_all (flat_entry (lists c.args.flats.now)) (map (λ f. f.1) c.args.fields.now) c.loop-field.field-index c.loop-field.flat.items c.loop-field.invariant
    (subst (λ z. flat_types_kept ≤ length z) c.deref.ensures.value (c.is_full.ensures.0 c.if-is_full.true))

pub put_flat-requires : goal.put_flat-requires
put_flat-requires c = cut_small flat_types_kept c.loop-field.flat.items (flatten_types (flat_entry (lists c.args.flats.now)) (take c.loop-field.field-index (map (λ f. f.1) c.args.fields.now))) c.loop-field.invariant

pub loop-field-preserved : goal.loop-field-preserved
loop-field-preserved c =
    types_more (flat_entry (lists c.args.flats.now)) (map (λ f. f.1) c.args.fields.now) c.loop-field.field-index c.field-item.result.1 c.loop-field.flat.items c.put_flat.new.flat.items
    c.flatten_type.result.now (part_small (λ f. f.1) c.args.fields.now c.loop-field.field-index c.loop-field-test.true) c.loop-field.invariant
    (c.flatten_type.ensures ∙ ap (flatten_type (flat_entry (lists c.args.flats.now))) (part_read (λ f. f.1) c.args.fields.now c.loop-field.field-index c.field-item.result c.field-item.result.1 c.loop-field-test.true c.field-item.is))
    c.in_ok-put_flat.ensures

pub returns : goal.returns
returns c = c.loop-field.invariant ∙ ap (λ z. take flat_types_kept (flatten_types (flat_entry (lists c.args.flats.now)) z)) (all_parts (λ f. f.1) c.args.fields.now c.loop-field.field-index c.loop-field-test.false)
