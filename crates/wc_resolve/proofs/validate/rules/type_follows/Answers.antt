use Rattle.wc_resolve.proofs.validate.rules.type_follows.Goals as goal

pub returns-in-ByValueResource : goal.returns-in-ByValueResource
returns-in-ByValueResource c = rw c.in-ByValueResource.is c.is_type_free.ensures
