-- Imports by the spaces of their items.
use Rattle.std.specs.Prelude.{◌≡◌, ℕ, List, Contains, MatchOption, Option, Some, None}
use Rattle.std.specs.List.{slice_get}
use Rattle.wc_read.specs.Imports.{ImportValue}
use Rattle.wc_read.specs.declared.operators.Space.{Space}
use Rattle.wc_read.specs.declared.operators.Space.TheVariants.{Types, Funcs, Tables, Memories, Globals}
use Rattle.wc_read.specs.Decoded.{ItemIndex}
use Rattle.wc_read.specs.ImportItems.{IsImportItem, positions_from}
use Rattle.wc_gc.specs.declared.import_positions.ImportSpaces.{ImportSpaces}

-- these are the positions of the imports of each space
pub record AreBySpace (imports : List ImportValue) (s : ImportSpaces) : Type 0 where
  pub funcs : s.funcs.items ≡ positions_from Funcs 0 imports
  pub tables : s.tables.items ≡ positions_from Tables 0 imports
  pub memories : s.memories.items ≡ positions_from Memories 0 imports
  pub globals : s.globals.items ≡ positions_from Globals 0 imports

-- the position of the import that an item is
abbrev pub import_in : ImportSpaces → Space → ℕ → Option ℕ
import_in s Types n = None
import_in s Funcs n = slice_get s.funcs.items n
import_in s Tables n = slice_get s.tables.items n
import_in s Memories n = slice_get s.memories.items n
import_in s Globals n = slice_get s.globals.items n

abbrev pub import_at : ImportSpaces → ItemIndex → Option ℕ
import_at s x = import_in s x.0 x.1

-- for each import the position of its item among some items; none, where it is none of them
abbrev pub ArePositionsIn : List ImportValue → List ItemIndex → List (Option ℕ) → Type 0
ArePositionsIn imports order positions = (k : ℕ) (x : ItemIndex) (position : Option ℕ) → IsImportItem imports k x → slice_get positions k ≡ Some position →
    MatchOption position (¬ (Contains order x)) (λ p. slice_get order p ≡ Some x)
