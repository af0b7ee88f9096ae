-- What arguments are read as, one after another, by a table of options.
use Rattle.std.specs.Prelude.{ℕ, ◌==◌, ◌&&◌, ◌||◌, Bool, false, not, nat_lt, length, cond, List, [], ◌∷◌, ◌++◌, codes, map, Option, Some, None, is_some, Ok, Err, String, string_bytes}
use Rattle.std.specs.List.{after_first, before_first, flat_map, position_or_len}
use Rattle.std.specs.Option.{option_map, option_map_or}
use Rattle.std.specs.Str.{bytes_eq}
use Rattle.std.specs.declared.alloc.Global.{Global}
use Rattle.wc_options.specs.Table.{OptionView, Table, option_named, option_view}
use Rattle.wc_options.specs.declared.table.ProgramOption.{ProgramOption}
use Rattle.wc_options.specs.Wrong.{Reading, WrongView, help, version, wrong, unknown_option, missing_value, not_a_pair, repeated_option, unexpected}
use Rattle.wc_options.specs.declared.table.Value.{Value}
use Rattle.wc_options.specs.declared.table.Value.TheVariants.{Nothing, Key, Pair}
use Rattle.wc_options.specs.declared.reading.Mode.{Mode}
use Rattle.wc_options.specs.declared.reading.Mode.TheVariants.{Free as free_mode, Pending as pending_mode, Ended as ended_mode}
use Rattle.wc_options.specs.declared.reading.Token.{Token}
use Rattle.wc_options.specs.declared.reading.Token.TheVariants.{Plain, Given}

-- the code of `=`, and of `-`
abbrev pub equals_sign : ℕ
equals_sign = 61

abbrev pub hyphen : ℕ
hyphen = 45

-- the texts before and after the first `=`
abbrev pub pair_of : List ℕ → Option (List ℕ × List ℕ)
pair_of text =
    cond (nat_lt (position_or_len (λ b. b == equals_sign) text) (length text))
    (Some (before_first (λ b. b == equals_sign) text, after_first (λ b. b == equals_sign) text)) None

-- a text begins with `-`, and is not `-` alone
abbrev pub starts_with_hyphen : List ℕ → Bool
starts_with_hyphen [] = false
starts_with_hyphen (c ∷ cs) = c == hyphen

abbrev pub begins_option : List ℕ → Bool
begins_option argument = starts_with_hyphen argument && not (bytes_eq argument (codes "-"))

-- what the next argument is: any; the value of the option of a name; or no option, since those have ended
pub data ModeView : Type 0 where
  free : ModeView
  pending : (name : List ℕ) (value : Value) → ModeView
  ended : ModeView

abbrev pub mode_view : Mode → ModeView
mode_view free_mode = free
mode_view (pending_mode name value) = pending name.now value
mode_view ended_mode = ended

-- what arguments say: a text that is no option; or an option, by its name, with its value, which is empty where it has none
pub data TokenView : Type 0 where
  plain : (text : List ℕ) → TokenView
  given : (name value : List ℕ) → TokenView

abbrev pub token_view : Token → TokenView
token_view (Plain text) = plain text.now
token_view (Given name value) = given name.now value.now

-- the first of some texts
abbrev pub first : List (List ℕ) → Option (List ℕ)
first [] = None
first (text ∷ rest) = Some text

-- after an argument: what the next one is, and what this one says, if it is not read with the next one
abbrev pub Step : Type 0
Step = ModeView × Option TokenView

abbrev pub step_view : Mode × Option Token → Step
step_view s = (mode_view s.0, option_map token_view s.1)

-- the value of an option, which has a `=` where it has to
abbrev pub valued : List ℕ → Value → List ℕ → Reading Step
valued name Pair value = cond (is_some (pair_of value)) (Ok (free, Some (given name value))) (Err (wrong (not_a_pair name value)))
valued name kind value = Ok (free, Some (given name value))

-- the same in an argument of its own, which is no option where it has to be none
abbrev pub take_value : List ℕ → Value → List ℕ → Reading Step
take_value name Key argument = cond (begins_option argument) (Err (wrong (missing_value name))) (valued name Key argument)
take_value name kind argument = valued name kind argument

-- an option of this kind with its value in one argument
abbrev pub take_kind : List ℕ → List ℕ × List ℕ → Value → Reading Step
take_kind argument p Nothing = Err (wrong (unknown_option argument))
take_kind argument p kind = valued p.0 kind p.1

abbrev pub take_named : List ℕ → List ℕ × List ℕ → Option OptionView → Reading Step
take_named argument p None = Err (wrong (unknown_option argument))
take_named argument p (Some o) = take_kind argument p o.value

abbrev pub take_pair : Table → List ℕ → Option (List ℕ × List ℕ) → Reading Step
take_pair table argument None = Err (wrong (unknown_option argument))
take_pair table argument (Some p) = take_named argument p (option_named table p.0)

-- an option in an argument of its own
abbrev pub take_alone : List ℕ → Value → Reading Step
take_alone argument Nothing = Ok (free, Some (given argument []))
take_alone argument kind = Ok (pending argument kind, None)

abbrev pub take_known : Table → List ℕ → Option OptionView → Reading Step
take_known table argument None = take_pair table argument (pair_of argument)
take_known table argument (Some o) = take_alone argument o.value

-- an argument that begins as options do
abbrev pub take_option : Table → List ℕ → Reading Step
take_option table argument =
    cond (bytes_eq argument (codes "--help") || bytes_eq argument (codes "-h")) (Err help)
    (cond (bytes_eq argument (codes "--version")) (Err version) (take_known table argument (option_named table argument)))

-- any argument
abbrev pub take_free : Table → List ℕ → Reading Step
take_free table argument =
    cond (bytes_eq argument (codes "--")) (Ok (ended, None))
    (cond (begins_option argument) (take_option table argument) (Ok (free, Some (plain argument))))

-- the next argument
abbrev pub take_up : Table → ModeView → List ℕ → Reading Step
take_up table free argument = take_free table argument
take_up table (pending name kind) argument = take_value name kind argument
take_up table ended argument = Ok (ended, Some (plain argument))

-- what arguments say, up to the first that is wrong
abbrev pub said : Option TokenView → List TokenView
said None = []
said (Some token) = token ∷ []

abbrev pub said_first : (ModeView → List TokenView) → Reading Step → List TokenView
said_first rest (Err stop) = []
said_first rest (Ok step) = said step.1 ++ rest step.0

abbrev pub said_from : Table → List (List ℕ) → ModeView → List TokenView
said_from table [] mode = []
said_from table (argument ∷ rest) mode = said_first (said_from table rest) (take_up table mode argument)

abbrev pub said_by : Table → List (List ℕ) → List TokenView
said_by table arguments = said_from table arguments free

-- the texts that are no options; and the values of the option of a name, in order
abbrev pub plain_in : TokenView → List (List ℕ)
plain_in (plain text) = text ∷ []
plain_in (given name value) = []

abbrev pub plain_texts : List TokenView → List (List ℕ)
plain_texts tokens = flat_map plain_in tokens

abbrev pub value_in : List ℕ → TokenView → List (List ℕ)
value_in option (plain text) = []
value_in option (given name value) = cond (bytes_eq name option) (value ∷ []) []

abbrev pub values_of : List ℕ → List TokenView → List (List ℕ)
values_of option tokens = flat_map (value_in option) tokens

abbrev pub is_given : List ℕ → List TokenView → Bool
is_given option tokens = is_some (first (values_of option tokens))

-- an option comes again that may come once
abbrev pub comes_again : Table → List TokenView → List ℕ → Bool
comes_again table before name = option_map_or (λ (o : OptionView). not o.repeats && is_given name before) (option_named table name) false

-- there are as many texts that are no options as there may be
abbrev pub is_full : Option ℕ → List TokenView → Bool
is_full None before = false
is_full (Some most) before = length (plain_texts before) == most

-- what is refused of an option that is given after others
abbrev pub repeated : Table → List TokenView → List ℕ → Option WrongView
repeated table before name = cond (comes_again table before name) (Some (repeated_option name)) None

-- what an argument says is refused after others
abbrev pub refused_token : Table → Option ℕ → List TokenView → TokenView → Option WrongView
refused_token table most before (plain text) = cond (is_full most before) (Some (unexpected text)) None
refused_token table most before (given name value) = repeated table before name

abbrev pub refused : Table → Option ℕ → List TokenView → Option TokenView → Option WrongView
refused table most before None = None
refused table most before (Some token) = refused_token table most before token

-- arguments are read, of which some are passed: the rest goes on, or stops
abbrev pub go_on : Reading (List TokenView) → Option WrongView → Reading (List TokenView)
go_on rest None = rest
go_on rest (Some w) = Err (wrong w)

abbrev pub read_step : Table → Option ℕ → List (List ℕ) → (ModeView → Reading (List TokenView)) → Reading Step → Reading (List TokenView)
read_step table most passed rest (Err stop) = Err stop
read_step table most passed rest (Ok step) = go_on (rest step.0) (refused table most (said_by table passed) step.1)

abbrev pub read_end : Table → List (List ℕ) → ModeView → Reading (List TokenView)
read_end table passed (pending name kind) = Err (wrong (missing_value name))
read_end table passed mode = Ok (said_by table passed)

abbrev pub read_from : Table → Option ℕ → List (List ℕ) → List (List ℕ) → ModeView → Reading (List TokenView)
read_from table most passed [] mode = read_end table passed mode
read_from table most passed (argument ∷ rest) mode =
    read_step table most passed (read_from table most (passed ++ argument ∷ []) rest) (take_up table mode argument)

-- what arguments say by a table, where there may be so many texts that are no options
abbrev pub read : Table → Option ℕ → List (List ℕ) → Reading (List TokenView)
read table most arguments = read_from table most [] arguments free

-- the same of texts as they are, by the table as it is
abbrev pub texts_in : List (String Global) → List (List ℕ)
texts_in arguments = map string_bytes arguments

abbrev pub lines_of : List ProgramOption → Table
lines_of table = map option_view table
