-- Which canonical options lowered functions have (component model, Canonical ABI, "canonopt"), by a list of a message.
use Rattle.std.specs.Prelude.{ℕ, List, [], map, Option, unwrap_or}
use Rattle.std.specs.Map.{lookup}
use Rattle.std.specs.Str.{bytes_eq}
use Rattle.wc_json.specs.Messages.{OptionsMessageView}
use Rattle.wc_world.specs.Options.{OptionsOf, option_bits, plain_options}

-- the name of functions, and the options of these, as bits
abbrev pub NamedOptions : Type 0
NamedOptions = List ℕ × ℕ

abbrev pub named_options : OptionsMessageView → NamedOptions
named_options o = (o.name, option_bits o.memory o.realloc o.string_encoding o.is_async)

-- a function has the options of the first in the list that is of its name, and the plain ones where none is
abbrev pub first_options : List NamedOptions → OptionsOf
first_options named r f abi = unwrap_or (lookup (bytes_eq f.name) named) (plain_options r f abi)

-- the same by a list of a message, which may be missing
abbrev pub listed_options : Option (List OptionsMessageView) → OptionsOf
listed_options options = first_options (map named_options (unwrap_or options []))
