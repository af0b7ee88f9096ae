-- What arguments are read as.
use Rattle.std.specs.Prelude.{◌≡◌, ℕ, ◌<◌, ◌&&◌, Bool, true, false, not, length, cond, List, [], ◌∷◌, codes, map, Option, Some, None, is_some, Ok, Err}
use Rattle.wc_options.specs.Adapters.{adapter_file_of, is_standard_once, pair_or}
use Rattle.wc_options.specs.Reading.{TokenView, first, is_given, plain_texts, read, values_of}
use Rattle.wc_options.specs.Table.{Table}
use Rattle.wc_options.specs.Wrong.{Reading, missing, repeated_option, together, wrong}
use Rattle.wc_options.specs.declared.table.Value.TheVariants.{Nothing, Text, Key, Pair}
use Rattle.wc_maps.specs.Texts.{second_parts, text_of, text_pair}
use Rattle.wcplan_inputs.specs.Arguments.{CommandView}
use Rattle.wcplan_inputs.specs.declared.arguments.Modules.{Modules}

-- the options: what the value of each is, and whether it may come several times
abbrev pub option_table : Table
option_table =
    record { name = codes "--adapt"; value = Text; repeats = true }
    ∷ record { name = codes "--export"; value = Text; repeats = true }
    ∷ record { name = codes "--adapter-export"; value = Pair; repeats = true }
    ∷ record { name = codes "--reject-legacy-names"; value = Nothing; repeats = false }
    ∷ record { name = codes "--realloc-via-memory-grow"; value = Nothing; repeats = false }
    ∷ record { name = codes "--task-hook"; value = Text; repeats = false }
    ∷ record { name = codes "--json"; value = Nothing; repeats = false }
    ∷ record { name = codes "--why"; value = Key; repeats = false }
    ∷ record { name = codes "--dot"; value = Nothing; repeats = false }
    ∷ record { name = codes "--imports"; value = Nothing; repeats = false }
    ∷ record { name = codes "--out"; value = Text; repeats = false }
    ∷ []

-- at most one of the files of a command is standard input

abbrev pub are_inputs_apart : CommandView → Bool
are_inputs_apart c = is_standard_once (c.worlds ∷ c.main ∷ second_parts c.adapters)

-- a command whose options and files fit together: either why a key is imported is printed or what is; a graph is one of ways, and
-- no JSON
abbrev pub fitting : CommandView → Reading CommandView
fitting c =
    cond (c.imports && is_some c.why) (Err (wrong (together (codes "--imports") (codes "--why"))))
    (cond (c.imports && c.dot) (Err (wrong (together (codes "--imports") (codes "--dot"))))
    (cond (c.dot && not (is_some c.why)) (Err (wrong (missing (codes "--why"))))
    (cond (c.dot && c.json) (Err (wrong (together (codes "--dot") (codes "--json"))))
    (cond (not (are_inputs_apart c)) (Err (wrong (repeated_option (codes "-")))) (Ok c)))))

-- the command with these paths, and this world, if one is named
abbrev pub command_with : List TokenView → List ℕ → Option (List ℕ) → List ℕ → CommandView
command_with tokens worlds world main = record {
  worlds = worlds;
  world = world;
  main = main;
  adapters = map adapter_file_of (values_of (codes "--adapt") tokens);
  exports = values_of (codes "--export") tokens;
  adapter_exports = map pair_or (values_of (codes "--adapter-export") tokens);
  reject_legacy_names = is_given (codes "--reject-legacy-names") tokens;
  realloc_via_memory_grow = is_given (codes "--realloc-via-memory-grow") tokens;
  task_hook = first (values_of (codes "--task-hook") tokens);
  json = is_given (codes "--json") tokens;
  why = first (values_of (codes "--why") tokens);
  dot = is_given (codes "--dot") tokens;
  imports = is_given (codes "--imports") tokens;
  out = first (values_of (codes "--out") tokens);
}

-- what arguments say of modules
pub record AreModules (tokens : List TokenView) (m : Modules) : Type 0 where
  pub adapters : map text_pair m.adapters.items ≡ map adapter_file_of (values_of (codes "--adapt") tokens)
  pub exports : map text_of m.exports.items ≡ values_of (codes "--export") tokens
  pub keys : map text_pair m.adapter_exports.items ≡ map pair_or (values_of (codes "--adapter-export") tokens)

-- the command, if both paths are there, and they and the options fit together
abbrev pub finish_with : List TokenView → List (List ℕ) → Reading CommandView
finish_with tokens [] = Err (wrong (missing (codes "WORLDS.json")))
finish_with tokens (worlds ∷ []) = Err (wrong (missing (codes "MAIN.wasm")))
finish_with tokens (worlds ∷ main ∷ []) = fitting (command_with tokens worlds None main)
finish_with tokens (worlds ∷ world ∷ main ∷ rest) = fitting (command_with tokens worlds (Some world) main)

abbrev pub finish : Reading (List TokenView) → Reading CommandView
finish (Ok tokens) = finish_with tokens (plain_texts tokens)
finish (Err stop) = Err stop

-- three arguments at most are no options
abbrev pub read_arguments : List (List ℕ) → Reading CommandView
read_arguments arguments = finish (read option_table (Some 3) arguments)

-- memory is asked for: no argument by itself is wrong, and one at least is no option
abbrev pub AsksMemory : List (List ℕ) → Type 0
AsksMemory arguments = (tokens : List TokenView) × (read option_table (Some 3) arguments ≡ Ok tokens) × (0 < length (plain_texts tokens))
