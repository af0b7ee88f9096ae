use Rattle.std.proofs.Common.{ap}
use Rattle.wc_texts.specs.Shapes.{number_json}
use Rattle.wc_record.proofs.ShapeLemmas.{no_fields, field_then, object_written, field_is}
use Rattle.wc_record.proofs.worlds.WorldAdapterEntryToJsonRefStr.write_entry.Goals as goal

pub returns : goal.returns
returns c =
    object_written _ _ c.in_ok-begin_object.ensures
    (field_then c.in_ok-put_member.ensures
    (field_then (field_is _ _ (ap number_json c.as_slice.ensures.len) c.in_ok-put_member-2.ensures)
    (field_then c.in_ok-put_member-3.ensures
    (field_then c.in_ok-put_member-4.ensures no_fields)))) c.end_object.ensures
