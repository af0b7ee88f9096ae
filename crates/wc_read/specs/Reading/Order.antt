-- The order of sections (5.5.16).
use Rattle.std.specs.Prelude.{ℕ, ◌==◌, nat_lt, if◌then◌else◌, Option, Some, None}
use Rattle.wc_read.specs.Options.{◌>>=◌}
use Rattle.wc_read.specs.Sections.{SectionValue, custom_id, data_count_id}
use Rattle.wc_read.specs.Order.{section_position}
use Rattle.wc_read.specs.Reading.Reader.{name_at}

-- the position that a section takes after another position
unfoldable pub next_position : ℕ → SectionValue → Option ℕ
next_position position s =
    if s.id == custom_id then (name_at s.content >>= λ _. Some position)
    else if nat_lt data_count_id s.id then None else if nat_lt position (section_position s.id) then Some (section_position s.id) else None
