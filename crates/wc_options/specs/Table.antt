-- The table of a program's options.
use Rattle.std.specs.Prelude.{ℕ, Bool, List, find, Option}
use Rattle.std.specs.Str.{bytes_eq}
use Rattle.wc_options.specs.declared.table.ProgramOption.{ProgramOption}
use Rattle.wc_options.specs.declared.table.Value.{Value}

-- an option: its name, what its value is, and whether it may come several times
pub record OptionView : Type 0 where
  pub name : List ℕ
  pub value : Value
  pub repeats : Bool

abbrev pub option_view : ProgramOption → OptionView
option_view o = record { name = o.name.now; value = o.value; repeats = o.repeats }

abbrev pub Table : Type 0
Table = List OptionView

-- the option of a name
abbrev pub option_named : Table → List ℕ → Option OptionView
option_named table name = find (λ (o : OptionView). bytes_eq o.name name) table
