-- No spelling begins another of a format that a reading function meets, and of vectors of it.
use Rattle.wc_read.specs.Formats.{Format, SpellsVector}
use Rattle.wc_read.specs.Reading.Reader.{Read, vector_at}
use Rattle.wc_read.specs.Laws.{IsPrefixFree}
use Rattle.wc_read.proofs.MeetsLemmas.{Meets, one_spelling, vector_meets}

pub prefix_free : {A : Type 0} (Spells : Format A) (read : Read A) → Meets Spells read → IsPrefixFree Spells
prefix_free Spells read m = λ a b rest others x y. one_spelling Spells read m a b x y rest others

pub vectors_prefix_free : {A : Type 0} (Spells : Format A) (read : Read A) → Meets Spells read → IsPrefixFree (SpellsVector Spells)
vectors_prefix_free Spells read m = prefix_free (SpellsVector Spells) (vector_at read) (vector_meets Spells read m)
