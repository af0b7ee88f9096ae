-- What is written of imports is their text.
use Rattle.std.proofs.Common.{◌≡◌, refl}
use Rattle.std.proofs.lemmas.List.{length-map}
use Rattle.std.proofs.lemmas.List.Folds.{flat_map-map}
use Rattle.wc_read.specs.Imports.{import_value, import_values}
use Rattle.wc_read.specs.declared.types.Import.{Import}
use Rattle.std.specs.Prelude.{List}
use Rattle.wc_write.specs.Text.{import_text, imports_text, vector_text}

pub imports_written : (imports : List Import) → vector_text (λ i. import_text (import_value i)) imports ≡ imports_text (import_values imports)
unfolding imports_text
imports_written imports = rw (← flat_map-map import_text import_value imports, ← length-map imports import_value) refl
