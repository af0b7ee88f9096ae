use Rattle.wc_resolve.proofs.validate.rules.world_follows.Goals as goal

pub returns-in-ByValueResource : goal.returns-in-ByValueResource
returns-in-ByValueResource c = rw c.in-ByValueResource.is c.is_world_free.ensures
