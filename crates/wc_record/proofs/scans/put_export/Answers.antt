use Rattle.std.proofs.Common.{ap}
use Rattle.wc_texts.specs.Shapes.{nullable_json}
use Rattle.wc_record.specs.Scans.{item_type_json}
use Rattle.wc_record.proofs.ShapeLemmas.{no_fields, field_then, object_written, field_is}
use Rattle.wc_record.proofs.scans.put_export.Goals as goal

pub returns : goal.returns
returns c =
    object_written _ _ c.in_ok-begin_object.ensures
    (field_then c.in_ok-put_member.ensures
    (field_then c.in_ok-put_member-2.ensures
    (field_then c.in_ok-put_member-3.ensures
    (field_then (field_is _ _ (ap (nullable_json item_type_json) c.item_type-ty.ensures) c.in_ok-put_member-4.ensures) no_fields)))) c.end_object.ensures
