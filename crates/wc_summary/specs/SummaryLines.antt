-- What a component imports of each interface, as lines. Each text from outside is a word.
use Rattle.std.specs.Prelude.{ℕ, ◌-◌, ◌==◌, nat_lt, List, [], ◌∷◌, ◌++◌, length, map, take, cond, codes, decimal, Option, Some, None}
use Rattle.std.specs.List.{flat_map}
use Rattle.wc_read.specs.Names.{GlobalNameValue}
use Rattle.wc_read.specs.declared.operators.Space.TheVariants.{Funcs}
use Rattle.wc_summary.specs.Names.{function_name}
use Rattle.wc_why_text.specs.ItemTexts.{item_text}
use Rattle.wc_why_text.specs.RustNames.{rust_name}
use Rattle.wc_why_text.specs.Texts.{word}
use Rattle.wc_summary.specs.Summary.{AdapterPartView, EntryView, MainPartView, PartsView, stays_in}

-- texts, each after a text: the first after one, the others after another
abbrev pub separated : List ℕ → List ℕ → List (List ℕ) → List ℕ
separated first next [] = []
separated first next (t ∷ ts) = first ++ (t ++ flat_map (λ (u : List ℕ). next ++ u) ts)

-- how many imports
abbrev pub count_text : ℕ → List ℕ
count_text n = cond (n == 1) (codes "1 import of ") (decimal n ++ codes " imports of ")

-- a function, by its index and its name, if it has one
abbrev pub named_function : ℕ → Option (List ℕ) → List ℕ
named_function index None = item_text Funcs index None
named_function index (Some name) = item_text Funcs index (Some (rust_name name))

abbrev pub function_text : List GlobalNameValue → ℕ → List ℕ
function_text names index = named_function index (function_name names index)

-- the first three, and how many there are more
abbrev pub more_text : ℕ → List ℕ
more_text n = cond (nat_lt 3 n) (codes " and " ++ (decimal (n - 3) ++ codes " more")) []

abbrev pub main_text : List GlobalNameValue → MainPartView → List ℕ
main_text names p =
    count_text p.imports ++ (codes "main" ++ (separated (codes " by ") (codes ", ") (map (function_text names) (take 3 p.by)) ++ more_text (length p.by)))

-- words, each after a blank
abbrev pub words_text : List (List ℕ) → List ℕ
words_text names = flat_map (λ (name : List ℕ). codes " " ++ word name) names

-- how many bytes are needed for the exports that follow alone
abbrev pub gone_text : ℕ → List ℕ
gone_text bytes = codes ", " ++ (decimal bytes ++ codes " bytes, needed only for")

-- which exports need it, and how many bytes
abbrev pub only_text : ℕ → List (List ℕ) → List ℕ
only_text bytes exports = gone_text bytes ++ words_text exports

-- that it is always needed, for which exports, and where else paths to it begin: these are no words from outside
abbrev pub always_text : List (List ℕ) → List (List ℕ) → List ℕ
always_text stays roots = codes ", always needed for" ++ (words_text stays ++ flat_map (λ (root : List ℕ). codes " " ++ root) roots)

abbrev pub effect_text : AdapterPartView → List ℕ
effect_text p = cond p.is_library (codes ", always needed") (cond (stays_in p) (always_text p.stays p.roots) (only_text p.bytes p.exports))

abbrev pub adapter_text : AdapterPartView → List ℕ
adapter_text p = count_text p.imports ++ (codes "adapter " ++ (word p.adapter ++ effect_text p))

-- only its types are used, and by whom
abbrev pub types_text : Option (List ℕ) → List ℕ
types_text None = codes "types"
types_text (Some user) = codes "types, used by " ++ word user

-- the parts of a line
abbrev pub main_parts : List GlobalNameValue → MainPartView → List (List ℕ)
main_parts names p = cond (nat_lt 0 p.imports) (main_text names p ∷ []) []

abbrev pub types_parts : Option (Option (List ℕ)) → List (List ℕ)
types_parts None = []
types_parts (Some user) = types_text user ∷ []

abbrev pub entry_parts : List GlobalNameValue → PartsView → List (List ℕ)
entry_parts names e = main_parts names e.main ++ (map adapter_text e.adapters ++ types_parts e.types)

abbrev pub entry_line : List GlobalNameValue → EntryView → List ℕ
entry_line names e = word e.0 ++ (separated (codes ": ") (codes "; ") (entry_parts names e.1) ++ codes "\n")

-- a line for each interface
abbrev pub entry_lines : List GlobalNameValue → List EntryView → List ℕ
entry_lines names entries = flat_map (entry_line names) entries
