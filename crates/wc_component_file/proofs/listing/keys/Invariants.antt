use Rattle.std.proofs.Common.{◌≡◌, ℕ, List, map, take}
use Rattle.std.specs.Borrow.{Bor}
use Rattle.std.specs.Prelude.{⊤}
use Rattle.wc_maps.specs.Texts.{text_of}
use Rattle.wc_component_file.proofs.listing.keys.Given as goal

abbrev pub invariant-loop-entry : goal.invariant-loop-entry
invariant-loop-entry l = map text_of l.keys.items ≡ map (λ (e : Bor (List ℕ) × ⊤). e.0.now) (take l.entry-index l.entries)
