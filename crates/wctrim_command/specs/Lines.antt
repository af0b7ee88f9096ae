-- The lines that print renamed imports.
use Rattle.std.specs.Prelude.{ℕ, List, ◌++◌, codes}
use Rattle.std.specs.List.{flat_map}
use Rattle.wc_dedupe.specs.Renaming.{RenameView}
use Rattle.wc_texts.specs.FaultTexts.{colon}

-- between an import's name and its new one
abbrev pub arrow : List ℕ
arrow = codes " -> "

-- between the parts of a line
abbrev pub space : List ℕ
space = codes " "

abbrev pub line_feed : List ℕ
line_feed = codes "\n"

-- `MODULE: OLD -> NEW`, and the end of the line
abbrev pub line_of : RenameView → List ℕ
line_of r = r.module_name ++ (colon ++ (r.original ++ (arrow ++ (r.name ++ line_feed))))

-- a line for each rename, in order
abbrev pub lines_of : List RenameView → List ℕ
lines_of rs = flat_map line_of rs
