-- The items that imports are: the imports of each space are its first items, in their order (WebAssembly core specification, 2.5.11).
use Rattle.std.specs.Prelude.{◌≡◌, ℕ, ◌+◌, List, [], ◌∷◌, Bool, true, false, cond, Some}
use Rattle.std.specs.List.{slice_get}
use Rattle.wc_read.specs.Imports.{ImportValue}
use Rattle.wc_read.specs.declared.exports.ExportKind.TheVariants as export
use Rattle.wc_read.specs.declared.operators.Space.{Space}
use Rattle.wc_read.specs.declared.operators.Space.TheVariants.{Funcs, Tables, Memories, Globals}
use Rattle.wc_read.specs.declared.types.ImportType.{ImportType}
use Rattle.wc_read.specs.declared.types.ImportType.TheVariants.{Func, Table, Memory, Global}
use Rattle.wc_read.specs.Decoded.{ItemIndex}

-- whether an import has its item in a space
abbrev pub is_in_space : Space → ImportType → Bool
is_in_space Funcs (Func index) = true
is_in_space Tables (Table t) = true
is_in_space Memories (Memory t) = true
is_in_space Globals (Global t) = true
is_in_space space t = false

-- the positions of the imports of a space, where the first import has this position
abbrev pub positions_from : Space → ℕ → List ImportValue → List ℕ
positions_from space first [] = []
positions_from space first (i ∷ is) = cond (is_in_space space i.ty) (first ∷ positions_from space (first + 1) is) (positions_from space (first + 1) is)

-- the import at this position is this item: the imports of each space are its first items, in their order
abbrev pub IsImportItem : List ImportValue → ℕ → ItemIndex → Type 0
IsImportItem imports position x = slice_get (positions_from x.0 0 imports) x.1 ≡ Some position
