use Rattle.wc_record.proofs.ShapeLemmas.{no_fields, field_then, object_written}
use Rattle.wc_record.proofs.export_options.LiftedFunctionToJson.write.Goals as goal

pub returns : goal.returns
returns c =
    object_written _ _ c.in_ok-begin_object.ensures
    (field_then c.in_ok-put_member.ensures
    (field_then c.in_ok-put_member-2.ensures
    (field_then c.in_ok-put_member-3.ensures no_fields))) c.end_object.ensures
