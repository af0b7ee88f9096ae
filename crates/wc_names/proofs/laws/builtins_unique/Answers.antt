use Rattle.wc_names.proofs.BuiltinLemmas.{builtin_unique}
use Rattle.wc_names.proofs.laws.builtins_unique.Goals as goal

pub returns : goal.returns
returns c = builtin_unique
