-- Counts of imports.
use Rattle.std.specs.Prelude.{ℕ}
use Rattle.wc_read.specs.declared.operators.Space.{Space}
use Rattle.wc_read.specs.declared.operators.Space.TheVariants.{Types, Funcs, Tables, Memories, Globals}
use Rattle.wc_paths.specs.declared.roots.ImportCounts.{ImportCounts}

-- how many there were of a space
abbrev pub count_in : ImportCounts → Space → ℕ
count_in c Types = 0
count_in c Funcs = c.funcs
count_in c Tables = c.tables
count_in c Memories = c.memories
count_in c Globals = c.globals
