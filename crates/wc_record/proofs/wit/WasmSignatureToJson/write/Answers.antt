use Rattle.wc_record.specs.Wit.{wasm_type_json}
use Rattle.wc_record.proofs.ShapeLemmas.{no_fields, field_then, object_written, field_is, array_same}
use Rattle.wc_record.proofs.wit.WasmSignatureToJson.write.Goals as goal

pub returns : goal.returns
returns c =
    object_written _ _ c.in_ok-begin_object.ensures
    (field_then (field_is _ _ (array_same wasm_type_json _ _ c.deref.ensures.value) c.in_ok-put_list_member.ensures)
    (field_then (field_is _ _ (array_same wasm_type_json _ _ c.deref-2.ensures.value) c.in_ok-put_list_member-2.ensures)
    (field_then c.in_ok-put_member.ensures
    (field_then c.in_ok-put_member-2.ensures no_fields)))) c.end_object.ensures
