use Rattle.wc_record.proofs.ShapeLemmas.{object_written}
use Rattle.wc_record.proofs.worlds.put_world.Goals as goal

pub returns : goal.returns
returns c = object_written _ _ c.in_ok-begin_object.ensures c.in_ok-put_members.ensures c.end_object.ensures
