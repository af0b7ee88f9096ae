use Rattle.std.proofs.Common.{map}
use Rattle.wc_selection.specs.Keys.{named_key}
use Rattle.wcplan_inputs.specs.Private.SharedKeys.{exported_scope, file_bytes, names_view}
use Rattle.wcplan_inputs.proofs.SharedKeyLemmas.{unshared_among}
use Rattle.wcplan_inputs.proofs.shared_keys.shared_keys.Goals as goal

pub returns-in-Some-clause-fault : goal.returns-in-Some-clause-fault
returns-in-Some-clause-fault c =
    unshared_among (exported_scope c.args.world) c.args.main.now (map file_bytes c.args.adapters.now) (map named_key c.args.world.keys.now)
    (names_view c.in-Some.names) (rw c.in-Some.is at c.in_ok-names.ensures) c.shared_exports.result c.shared_exports.ensures.fault
