use Rattle.wc_record.proofs.ShapeLemmas.{field_then, fields_then, no_fields, object_written}
use Rattle.wc_record.proofs.worlds.put_planned_world.Goals as goal

pub returns : goal.returns
returns c =
    object_written _ _ c.in_ok-begin_object.ensures
    (fields_then c.in_ok-put_members.ensures (field_then c.in_ok-put_member.ensures no_fields)) c.end_object.ensures
