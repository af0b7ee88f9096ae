use Rattle.wc_texts.specs.Shapes.{number_json}
use Rattle.wc_record.proofs.ShapeLemmas.{no_fields, field_then, object_written, field_is, nullable_same}
use Rattle.wc_record.proofs.core_types.TableTypeToJson.write.Goals as goal

pub returns : goal.returns
returns c =
    object_written _ _ c.in_ok-begin_object.ensures
    (field_then c.in_ok-put_member.ensures
    (field_then c.in_ok-put_member-2.ensures
    (field_then c.in_ok-put_member-3.ensures
    (field_then (field_is _ _ (nullable_same number_json c.args.self.now.maximum) c.in_ok-put_member-4.ensures) no_fields)))) c.end_object.ensures
