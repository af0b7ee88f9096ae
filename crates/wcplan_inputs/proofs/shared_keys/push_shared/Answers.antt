use Rattle.std.proofs.Common.{◌≡◌, ◌++◌, IfErr, IsTrue, OnOk, map, subst}
use Rattle.wcplan_inputs.specs.SharedKeys.{IsUnsharedKey, is_shared, shared_pairs}
use Rattle.wcplan_inputs.specs.Private.SharedKeys.{names_view, own_pair}
use Rattle.wcplan_inputs.proofs.shared_keys.push_shared.Goals as goal

pub returns-clause-pairs : goal.returns-clause-pairs
returns-clause-pairs c =
    subst (λ q. OnOk c.push_pair.result (map own_pair c.push_pair.new.pairs.items
    ≡ map own_pair c.args.pairs.now.items ++ shared_pairs (names_view c.args.names.now) q)) c.in_ok-asked.ensures c.push_pair.ensures.pairs

pub returns-clause-shared : goal.returns-clause-shared
returns-clause-shared c =
    subst (λ q. OnOk c.push_pair.result (IsTrue (is_shared (names_view c.args.names.now) q))) c.in_ok-asked.ensures c.push_pair.ensures.shared

pub returns-clause-fault : goal.returns-clause-fault
returns-clause-fault c =
    subst (λ q. IfErr c.push_pair.result (IsUnsharedKey (names_view c.args.names.now) q)) c.in_ok-asked.ensures c.push_pair.ensures.fault
