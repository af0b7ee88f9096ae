use Rattle.wc_validate.proofs.ValidateLemmas.{scope_is}
use Rattle.wc_validate.proofs.validate.names_of.Goals as goal

pub returns : goal.returns
returns c =
    scope_is c.args.encoder.now _ _ _ _ _ _ c.metadata-metadata.ensures.resolve c.metadata-metadata.ensures.world c.world.ensures c.adapters.ensures
    c.reject_legacy_names.ensures c.task_hook.ensures
