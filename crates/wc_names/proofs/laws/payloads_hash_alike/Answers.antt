use Rattle.std.proofs.Common.{rules}
use Rattle.std.specs.Cmp.Rules.{hashing}
use Rattle.wc_names.proofs.laws.payloads_hash_alike.Goals as goal

pub returns : goal.returns
returns c = search (hashing, rules)
