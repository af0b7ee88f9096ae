use Rattle.std.proofs.Common.{ap, map}
use Rattle.wc_resolve.specs.Roots.{indices}
use Rattle.wc_texts.specs.Shapes.{array_of, number_json}
use Rattle.wc_record.proofs.ShapeLemmas.{no_fields, field_then, object_written, field_is}
use Rattle.wc_record.proofs.worlds.SetTypeIdEntryToJsonInterfaceId.write_entry.Goals as goal

pub returns : goal.returns
returns c =
    object_written _ _ c.in_ok-begin_object.ensures
    (field_then c.in_ok-put_member.ensures
    (field_then (field_is _ _ (ap (λ ids. array_of (map number_json (indices ids))) c.as_slice.ensures.keys)
    c.in_ok-put_list_member.ensures) no_fields)) c.end_object.ensures
