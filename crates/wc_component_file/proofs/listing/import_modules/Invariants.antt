use Rattle.std.proofs.Common.{◌≡◌, ℕ, List, map, take}
use Rattle.std.specs.Borrow.{Bor}
use Rattle.std.specs.Prelude.{⊤}
use Rattle.wc_read.specs.Imports.{import_value}
use Rattle.wc_component_file.specs.Listing.{import_modules}
use Rattle.wc_component_file.proofs.listing.import_modules.Given as goal

abbrev pub invariant-loop-import : goal.invariant-loop-import
invariant-loop-import l = map (λ (e : Bor (List ℕ) × ⊤). e.0.now) l.seen.entries ≡ import_modules (map import_value (take l.import-index l.imports))
