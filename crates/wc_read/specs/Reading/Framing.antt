-- Sections by their sizes (5.5.2).
use Rattle.std.specs.Prelude.{Some}
use Rattle.wc_read.specs.Sections.{SectionValue}
use Rattle.wc_read.specs.Options.{◌>>=◌}
use Rattle.wc_read.specs.Reading.Reader.{Read, byte_at, bytes_at, number_at}

unfoldable pub section_at : Read SectionValue
section_at bytes = do
  id ← byte_at bytes
  size ← number_at 32 id.1
  content ← bytes_at size.0 size.1
  Some (record { id = id.0; content = content.0 }, content.1)
