-- Why arguments are no command, and the text that says what is wrong.
use Rattle.std.specs.Prelude.{◌≡◌, ℕ, List, ◌++◌, codes, Option, Some, None, Result, Ok, Err}
use Rattle.std.specs.Borrow.{Bor}
use Rattle.wc_options.specs.declared.wrong.NoCommand.{NoCommand}
use Rattle.wc_options.specs.declared.wrong.NoCommand.TheVariants.{Memory, Help, Version, Wrong}
use Rattle.wc_options.specs.declared.wrong.WrongArgument.{WrongArgument}
use Rattle.wc_options.specs.declared.wrong.WrongArgument.TheVariants.{UnknownOption, MissingValue, NotAPair, RepeatedOption, Unexpected, Missing, Together, Without, NotANumber}

abbrev pub text_of : Bor (List ℕ) → List ℕ
text_of t = t.now

-- what is wrong with arguments
pub data WrongView : Type 0 where
  unknown_option : (argument : List ℕ) → WrongView
  missing_value : (option : List ℕ) → WrongView
  not_a_pair : (option value : List ℕ) → WrongView
  repeated_option : (option : List ℕ) → WrongView
  unexpected : (argument : List ℕ) → WrongView
  missing : (name : List ℕ) → WrongView
  together : (option other : List ℕ) → WrongView
  without : (option other : List ℕ) → WrongView
  not_a_number : (option value : List ℕ) → WrongView

abbrev pub wrong_view : WrongArgument → WrongView
wrong_view (UnknownOption argument) = unknown_option argument.now
wrong_view (MissingValue option) = missing_value option.now
wrong_view (NotAPair option value) = not_a_pair option.now value.now
wrong_view (RepeatedOption option) = repeated_option option.now
wrong_view (Unexpected argument) = unexpected argument.now
wrong_view (Missing name) = missing name.now
wrong_view (Together option other) = together option.now other.now
wrong_view (Without option other) = without option.now other.now
wrong_view (NotANumber option value) = not_a_number option.now value.now

abbrev pub wrong_text : WrongView → List ℕ
wrong_text (unknown_option argument) = codes "unknown option " ++ argument
wrong_text (missing_value option) = codes "missing value of " ++ option
wrong_text (not_a_pair option value) = codes "no = in " ++ (value ++ (codes " of " ++ option))
wrong_text (repeated_option option) = option ++ codes " twice"
wrong_text (unexpected argument) = codes "unexpected argument " ++ argument
wrong_text (missing name) = codes "missing " ++ name
wrong_text (together option other) = option ++ (codes " with " ++ other)
wrong_text (without option other) = option ++ (codes " without " ++ other)
wrong_text (not_a_number option value) = option ++ (codes " " ++ (value ++ codes ": no number"))

-- why arguments are no command
pub data Stop : Type 0 where
  help : Stop
  version : Stop
  wrong : WrongView → Stop

-- what arguments are read as, or why reading stops
abbrev pub Reading : Type 0 → Type 0
Reading A = Result A Stop

-- reading stops for this reason; or memory ran out, where it is asked for
abbrev pub IsStop : {A : Type 0} → Type 0 → Reading A → NoCommand → Type 0
IsStop asks reading Memory = asks
IsStop asks reading Help = reading ≡ Err help
IsStop asks reading Version = reading ≡ Err version
IsStop asks reading (Wrong w) = reading ≡ Err (wrong (wrong_view w))

-- the result is what is read, as it is seen, unless memory ran out, where it is asked for
abbrev pub IsRead : {A B : Type 0} → (A → B) → Type 0 → Result A NoCommand → Reading B → Type 0
IsRead view asks (Ok x) reading = reading ≡ Ok (view x)
IsRead view asks (Err e) reading = IsStop asks reading e

-- the same where none is asked for
abbrev pub IsReadWithoutMemory : {A B : Type 0} → (A → B) → Result A NoCommand → Reading B → Type 0
IsReadWithoutMemory view result reading = IsRead view ⊥ result reading

-- what is refused, if anything is
abbrev pub IsRefused : Option WrongView → Result (Unit {0}) NoCommand → Type 0
IsRefused None (Ok x) = Unit {0}
IsRefused None (Err e) = ⊥
IsRefused (Some w) (Ok x) = ⊥
IsRefused (Some w) (Err (Wrong v)) = wrong_view v ≡ w
IsRefused (Some w) (Err e) = ⊥
