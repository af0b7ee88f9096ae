use Rattle.std.proofs.Common.{refl, sym, subst}
use Rattle.wc_read.specs.Modules.{SpellsModule, module_value}
use Rattle.wc_module_ways.proofs.core_modules.followed_of.Goals as goal

pub returns-clause-core : goal.returns-clause-core
returns-clause-core c kind serves =
    let source = c.in_ok-followed.ensures.source in
    record { kind = kind; named = refl; served = serves; spelled = source.spelled; followed = source.followed }

pub returns-clause-has : goal.returns-clause-has
returns-clause-has c =
    let source = c.in_ok-followed.ensures.source in
    record {
      spelled = subst (λ b. SpellsModule b (module_value c.in_ok-followed.followed.code)) (sym source.spelled) source.followed.spells.spelled;
      paths = source.has_paths;
    }
