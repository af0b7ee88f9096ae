-- What is said beside an answer, as it is made.
use Rattle.std.specs.Prelude.{string_bytes}
use Rattle.std.specs.Option.{option_map}
use Rattle.wcwhy.specs.Warnings.{Saying}
use Rattle.wcwhy.specs.declared.warnings.Said.{Said}

abbrev pub said_view : Said → Saying
said_view s = record { warnings = string_bytes s.warnings; unallowed = option_map string_bytes s.unallowed }
