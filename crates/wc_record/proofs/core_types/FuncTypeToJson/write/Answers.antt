use Rattle.wc_record.specs.CoreTypes.{val_type_json}
use Rattle.wc_record.proofs.ShapeLemmas.{no_fields, field_then, object_written, field_is, array_same}
use Rattle.wc_record.proofs.core_types.FuncTypeToJson.write.Goals as goal

pub returns : goal.returns
returns c =
    object_written _ _ c.in_ok-begin_object.ensures
    (field_then (field_is _ _ (array_same val_type_json _ _ c.params.ensures) c.in_ok-put_list_member.ensures)
    (field_then (field_is _ _ (array_same val_type_json _ _ c.results.ensures) c.in_ok-put_list_member-2.ensures) no_fields)) c.end_object.ensures
