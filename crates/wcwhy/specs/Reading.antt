-- What arguments are read as.
use Rattle.std.specs.Prelude.{◌≡◌, ℕ, Bool, ◌&&◌, not, true, false, cond, List, [], ◌∷◌, ◌++◌, codes, find, map, None, Ok, Err, nat_lt, length, Option, Some}
use Rattle.std.specs.Option.{option_and_then, option_to_list}
use Rattle.std.specs.Str.{bytes_eq}
use Rattle.wc_options.specs.Adapters.{adapter_file_of, is_standard_once, pair_or}
use Rattle.wc_options.specs.Reading.{TokenView, first, is_given, plain_texts, read, values_of}
use Rattle.wc_options.specs.Table.{Table}
use Rattle.wc_options.specs.Wrong.{Reading, WrongView, missing, not_a_number, repeated_option, together, without, wrong}
use Rattle.wc_options.specs.declared.table.Value.TheVariants.{Nothing, Pair, Text}
use Rattle.wc_import_paths.specs.Functions.{index_of}
use Rattle.wc_import_paths.specs.Patterns.{pattern_of}
use Rattle.wc_maps.specs.Texts.{second_parts}
use Rattle.wcwhy.specs.Arguments.{CommandView}

-- the options: `--adapt`, `--import` and `--func` have a value, which may be any text, `--adapter-export` one with a `=`, and each of these
-- may come several times; `--dot`, `--json` and `--imports` have none; `--allow`, `--core` and `--out` have one
abbrev pub option_table : Table
option_table =
    record { name = codes "--adapt"; value = Text; repeats = true }
    ∷ record { name = codes "--adapter-export"; value = Pair; repeats = true }
    ∷ record { name = codes "--import"; value = Text; repeats = true }
    ∷ record { name = codes "--func"; value = Text; repeats = true }
    ∷ record { name = codes "--dot"; value = Nothing; repeats = false }
    ∷ record { name = codes "--json"; value = Nothing; repeats = false }
    ∷ record { name = codes "--imports"; value = Nothing; repeats = false }
    ∷ record { name = codes "--allow"; value = Text; repeats = false }
    ∷ record { name = codes "--core"; value = Text; repeats = false }
    ∷ record { name = codes "--out"; value = Text; repeats = false } ∷ []

-- the value of an option that may come once
abbrev pub option_value : List TokenView → List ℕ → Option (List ℕ)
option_value tokens name = first (values_of name tokens)

-- the index of the core module that is chosen
abbrev pub core_of : List TokenView → Option ℕ
core_of tokens = option_and_then index_of (option_value tokens (codes "--core"))

-- a command by the texts that are no options: the path, and then the exports
abbrev pub command_with : List TokenView → List ℕ → List (List ℕ) → CommandView
command_with tokens source exports = record {
  source = source;
  adapters = map adapter_file_of (values_of (codes "--adapt") tokens);
  adapter_exports = map pair_or (values_of (codes "--adapter-export") tokens);
  imports = map pattern_of (values_of (codes "--import") tokens);
  functions = values_of (codes "--func") tokens;
  dot = is_given (codes "--dot") tokens;
  json = is_given (codes "--json") tokens;
  summary = is_given (codes "--imports") tokens;
  allow = option_value tokens (codes "--allow");
  core = core_of tokens;
  out = option_value tokens (codes "--out");
  exports = exports;
}

abbrev pub command_by : List TokenView → List (List ℕ) → CommandView
command_by tokens [] = command_with tokens [] []
command_by tokens (source ∷ exports) = command_with tokens source exports

abbrev pub command_of : List TokenView → CommandView
command_of tokens = command_by tokens (plain_texts tokens)

-- an option of a name is given; or an export, where the name is `EXPORT`
abbrev pub is_said : List TokenView → List ℕ → Bool
is_said tokens name = cond (bytes_eq name (codes "EXPORT")) (nat_lt 1 (length (plain_texts tokens))) (is_given name tokens)

-- what does not fit together, by twos: a graph is no JSON; `--imports` is about all imports, from all exports, about no function, and no
-- graph; with `--out` nothing is asked; and `--allow` says by itself which imports are asked for
abbrev pub clash_table : List (List ℕ × List ℕ)
clash_table =
    (codes "--dot", codes "--json")
    ∷ (codes "--imports", codes "--import")
    ∷ (codes "--imports", codes "--func")
    ∷ (codes "--imports", codes "--dot")
    ∷ (codes "--imports", codes "EXPORT")
    ∷ (codes "--out", codes "--adapt")
    ∷ (codes "--out", codes "--adapter-export")
    ∷ (codes "--out", codes "--import")
    ∷ (codes "--out", codes "--func")
    ∷ (codes "--out", codes "--dot")
    ∷ (codes "--out", codes "--json")
    ∷ (codes "--out", codes "--imports")
    ∷ (codes "--out", codes "--allow")
    ∷ (codes "--out", codes "EXPORT")
    ∷ (codes "--allow", codes "--import")
    ∷ (codes "--allow", codes "--func")
    ∷ (codes "--allow", codes "--dot")
    ∷ (codes "--allow", codes "--imports") ∷ []

abbrev pub are_said : List TokenView → List ℕ × List ℕ → Bool
are_said tokens two = is_said tokens two.0 && is_said tokens two.1

-- the first two that are given
abbrev pub clash : List TokenView → Option (List ℕ × List ℕ)
clash tokens = find (are_said tokens) clash_table

-- a core module is written that is not chosen; or one is chosen by what is no number
abbrev pub output_misfit : List TokenView → Option WrongView
output_misfit tokens = cond (is_given (codes "--out") tokens) (Some (without (codes "--out") (codes "--core"))) None

abbrev pub number_misfit_by : List ℕ → Option ℕ → Option WrongView
number_misfit_by text None = Some (not_a_number (codes "--core") text)
number_misfit_by text (Some n) = None

abbrev pub number_misfit : List ℕ → Option WrongView
number_misfit text = number_misfit_by text (index_of text)

abbrev pub core_misfit_by : List TokenView → Option (List ℕ) → Option WrongView
core_misfit_by tokens None = output_misfit tokens
core_misfit_by tokens (Some text) = number_misfit text

abbrev pub core_misfit : List TokenView → Option WrongView
core_misfit tokens = core_misfit_by tokens (option_value tokens (codes "--core"))

-- what is wrong with arguments of which none by itself is wrong
abbrev pub misfit_by : List TokenView → Option (List ℕ × List ℕ) → Option WrongView
misfit_by tokens None = core_misfit tokens
misfit_by tokens (Some two) = Some (together two.0 two.1)

abbrev pub misfit : List TokenView → Option WrongView
misfit tokens = misfit_by tokens (clash tokens)

abbrev pub unless_misfit : Option WrongView → CommandView → Reading CommandView
unless_misfit None c = Ok c
unless_misfit (Some w) c = Err (wrong w)

abbrev pub finish_with : List TokenView → List (List ℕ) → Reading CommandView
finish_with tokens [] = Err (wrong (missing (codes "IN")))
finish_with tokens (source ∷ exports) = unless_misfit (misfit tokens) (command_with tokens source exports)

abbrev pub finish : Reading (List TokenView) → Reading CommandView
finish (Ok tokens) = finish_with tokens (plain_texts tokens)
finish (Err stop) = Err stop

abbrev pub read_command : List (List ℕ) → Reading CommandView
read_command arguments = finish (read option_table None arguments)

-- at most one of the files that a command reads is standard input

abbrev pub are_inputs_apart : CommandView → Bool
are_inputs_apart c = is_standard_once (c.source ∷ (option_to_list c.allow ++ second_parts c.adapters))

abbrev pub apart : CommandView → Reading CommandView
apart c = cond (not (are_inputs_apart c)) (Err (wrong (repeated_option (codes "-")))) (Ok c)

abbrev pub and_apart : Reading CommandView → Reading CommandView
and_apart (Ok c) = apart c
and_apart (Err stop) = Err stop

abbrev pub read_arguments : List (List ℕ) → Reading CommandView
read_arguments arguments = and_apart (read_command arguments)

-- a command is read
abbrev pub IsCommand : Reading CommandView → Type 0
IsCommand reading = (c : CommandView) × (reading ≡ Ok c)

-- memory is asked for: they are a command, of whose files several may be standard input
abbrev pub AsksMemory : List (List ℕ) → Type 0
AsksMemory arguments = IsCommand (read_command arguments)
