-- The usage text and the help, made of a table of options.
use Rattle.std.specs.Prelude.{ℕ, List, ◌++◌}
use Rattle.std.specs.List.{flat_map}
use Rattle.wc_options.specs.declared.table.ProgramOption.{ProgramOption}
use Rattle.wc_options.specs.declared.usage.Page.{Page}

-- what the usage text shows of options, and their lines of help
abbrev pub usages : List ProgramOption → List ℕ
usages options = flat_map (λ (o : ProgramOption). o.usage.now) options

abbrev pub helps : List ProgramOption → List ℕ
helps options = flat_map (λ (o : ProgramOption). o.help.now) options

abbrev pub usage_text : Page → List ℕ
usage_text p = (p.usage.now ++ usages p.options.now) ++ p.end.now

abbrev pub help_text : Page → List ℕ
help_text p = usage_text p ++ ((p.words.now ++ helps p.options.now) ++ p.last.now)
