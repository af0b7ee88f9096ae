-- Renames as bytes, in the encodings of the binary format: numbers as minimal LEB128, names as their length and their
-- bytes (WebAssembly core specification, 5.1.3, 5.2.2 and 5.2.4).
use Rattle.std.specs.Prelude.{ℕ, List, ◌++◌}
use Rattle.wc_write.specs.Text.{name_text, vector_text}
use Rattle.wc_dedupe.specs.Renaming.{RenameView}

-- a rename: the module, the original name and the new one
abbrev pub rename_text : RenameView → List ℕ
rename_text r = name_text r.module_name ++ (name_text r.original ++ name_text r.name)

-- renames as text: how many there are, and then each
abbrev pub renames_text : List RenameView → List ℕ
renames_text renames = vector_text rename_text renames
