-- The texts of faults. The text of a fault is its name; where it carries another fault, its name, `: `, and the text of
-- that. The name of an adapter, of an export, or a key, stands in quotation marks after it.
use Rattle.std.specs.Prelude.{ℕ, List, ◌++◌, codes}

-- an allocation failed
abbrev pub memory_text : List ℕ
memory_text = codes "out of memory"

-- between a fault's name and the text of the fault that it carries
abbrev pub colon : List ℕ
colon = codes ": "

-- the name of a fault, and the text of the fault that it carries
abbrev pub carried_text : List ℕ → List ℕ → List ℕ
carried_text name text = name ++ (colon ++ text)

-- the name of a fault, and a name or a key
abbrev pub quoted_text : List ℕ → List ℕ → List ℕ
quoted_text name key = name ++ (codes " `" ++ (key ++ codes "`"))

-- the name of a fault, that of an adapter, and the text of the fault that it carries
abbrev pub about_text : List ℕ → List ℕ → List ℕ → List ℕ
about_text name adapter text = name ++ (codes " `" ++ (adapter ++ (codes "`: " ++ text)))
