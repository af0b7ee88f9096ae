-- Pairs of an index and a name are read as they are spelled.
use Rattle.std.proofs.Common.{refl}
use Rattle.wc_read.specs.Formats.{SpellsNumber, SpellsName, Joined}
use Rattle.wc_read.specs.Reading.Reader.{number_at, name_at}
use Rattle.wc_read.specs.Options.{◌>>=◌}
use Rattle.wc_read.specs.Names.{SpellsGlobalName}
use Rattle.wc_read.specs.Reading.Names.{global_name_of, global_name_at}
use Rattle.wc_read.proofs.MeetsLemmas.{Meets, same_meets, bind_meets, made_meets, made_at, number_meets, Made}
use Rattle.wc_read.proofs.TypesLemmas.{name_meets}

pub global_name_meets : Meets SpellsGlobalName global_name_at
unfolding global_name_at
global_name_meets =
    same_meets (Joined (SpellsNumber 32) (λ n. Made SpellsName (global_name_of n))) SpellsGlobalName global_name_at
    (bind_meets (SpellsNumber 32) (number_at 32) (λ n. Made SpellsName (global_name_of n)) (λ n bytes. name_at bytes >>= made_at (global_name_of n)) (number_meets 32)
    (λ n. made_meets SpellsName name_at (global_name_of n) name_meets))
    (λ bytes p j. rw j.5.2 (j.1, j.2, j.3, j.4, j.5.1))
    (λ bytes p s. (p.0, s.0, s.1, s.2, s.3, (p.1, s.4, refl)))
