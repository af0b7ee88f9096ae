-- Sets of live items.
use Rattle.std.specs.Prelude.{ℕ, Bool}
use Rattle.wc_read.specs.declared.operators.Space.{Space}
use Rattle.wc_read.specs.declared.operators.Space.TheVariants.{Types, Funcs, Tables, Memories, Globals}
use Rattle.wc_read.specs.Decoded.{ItemIndex}
use Rattle.wc_gc.specs.declared.live.LiveSets.{LiveSets}

-- the set of a space
abbrev pub set_of : {L : Type 0} → LiveSets L → Space → L
set_of s Types = s.types
set_of s Funcs = s.funcs
set_of s Tables = s.tables
set_of s Memories = s.memories
set_of s Globals = s.globals

-- whether the sets have an item, where a set of numbers has them by `has`
abbrev pub has_item : {L : Type 0} → (L → ℕ → Bool) → LiveSets L → ItemIndex → Bool
has_item has s x = has (set_of s x.0) x.1
