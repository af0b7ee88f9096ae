use Rattle.std.proofs.Common.{refl}
use Rattle.wc_module_ways.proofs.core_modules.library_of.Goals as goal

pub returns-clause-core : goal.returns-clause-core
returns-clause-core c kind = record { kind = kind; named = refl; spelled = refl; read = c.in_ok-code.ensures.found }
