-- Fields of producers are read as they are spelled.
use Rattle.std.proofs.Common.{refl}
use Rattle.wc_read.specs.Formats.{SpellsName, SpellsVector, Joined}
use Rattle.wc_read.specs.Reading.Reader.{name_at, vector_at}
use Rattle.wc_read.specs.Options.{◌>>=◌}
use Rattle.wc_read.specs.Producers.{SpellsProducer, SpellsField}
use Rattle.wc_read.specs.Reading.Producers.{producer_of, producer_at, field_of, field_at}
use Rattle.wc_read.proofs.MeetsLemmas.{Meets, same_meets, bind_meets, made_meets, made_at, vector_meets, Made}
use Rattle.wc_read.proofs.TypesLemmas.{name_meets}

pub producer_meets : Meets SpellsProducer producer_at
unfolding producer_at
producer_meets =
    same_meets (Joined SpellsName (λ n. Made SpellsName (producer_of n))) SpellsProducer producer_at
    (bind_meets SpellsName name_at (λ n. Made SpellsName (producer_of n)) (λ n bytes. name_at bytes >>= made_at (producer_of n)) name_meets
    (λ n. made_meets SpellsName name_at (producer_of n) name_meets))
    (λ bytes p j. rw j.5.2 (j.1, j.2, j.3, j.4, j.5.1))
    (λ bytes p s. (p.name, s.0, s.1, s.2, s.3, (p.version, s.4, refl)))

pub field_meets : Meets SpellsField field_at
unfolding field_at
field_meets =
    same_meets (Joined SpellsName (λ n. Made (SpellsVector SpellsProducer) (field_of n))) SpellsField field_at
    (bind_meets SpellsName name_at (λ n. Made (SpellsVector SpellsProducer) (field_of n)) (λ n bytes. vector_at producer_at bytes >>= made_at (field_of n)) name_meets
    (λ n. made_meets (SpellsVector SpellsProducer) (vector_at producer_at) (field_of n) (vector_meets SpellsProducer producer_at producer_meets)))
    (λ bytes f j. rw j.5.2 (j.1, j.2, j.3, j.4, j.5.1))
    (λ bytes f s. (f.name, s.0, s.1, s.2, s.3, (f.producers, s.4, refl)))
