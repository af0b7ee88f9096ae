-- Producers sections (tool conventions).
use Rattle.std.specs.Prelude.{map, ℕ, List, Some, Bool, true, false, Option, None}
use Rattle.wc_read.specs.Producers.{ProducerValue, FieldValue, IsProducers, ReadsProducers}
use Rattle.wc_read.specs.Options.{◌>>=◌}
use Rattle.wc_read.specs.Sections.{SectionValue}
use Rattle.wc_read.specs.Reading.Reader.{Read, name_at, vector_at}
use Rattle.wc_read.specs.declared.producers.Producer.{Producer}
use Rattle.wc_read.specs.declared.producers.ProducersField.{ProducersField}

abbrev pub producer_value : Producer → ProducerValue
producer_value p = record { name = p.name.now; version = p.version.now }

abbrev pub field_value : ProducersField → FieldValue
field_value f = record { name = f.name.now; producers = map producer_value f.producers.items }

abbrev pub producer_of : List ℕ → List ℕ → ProducerValue
producer_of name version = record { name = name; version = version }

unfoldable pub producer_at : Read ProducerValue
producer_at bytes = do
  name ← name_at bytes
  version ← name_at name.1
  Some (producer_of name.0 version.0, version.1)

abbrev pub field_of : List ℕ → List ProducerValue → FieldValue
field_of name producers = record { name = name; producers = producers }

unfoldable pub field_at : Read FieldValue
field_at bytes = do
  name ← name_at bytes
  producers ← vector_at producer_at name.1
  Some (field_of name.0 producers.0, producers.1)

-- whether bytes are a vector of fields
abbrev pub AreFields : Bool → List ℕ → Type 0
AreFields true bytes = IsProducers bytes
AreFields false bytes = IsProducers bytes → ⊥

-- the bytes of one section, where it reads
abbrev pub ProducersOf : SectionValue → Option (List ℕ) → Type 0
ProducersOf s (Some bytes) = ReadsProducers s bytes
ProducersOf s None = (bytes : List ℕ) → ReadsProducers s bytes → ⊥
