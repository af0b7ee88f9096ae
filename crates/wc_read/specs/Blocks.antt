-- The blocks of a body that are open, the inmost first, as bits: whether an `else` may occur in each.
use Rattle.std.specs.Prelude.{◌≡◌, ℕ, zero, suc, ◌/◌, ◌%◌, ◌==◌, List, [], ◌∷◌, ◌++◌, reverse, Bool, true, false, Option, Some, None}
use Rattle.std.specs.List.{flat_map}
use Rattle.wc_read.specs.declared.blocks.Blocks.{Blocks}

-- so many bits of a word, the lowest first
unfoldable pub bits_of : ℕ → ℕ → List Bool
bits_of zero word = []
bits_of (suc more) word = (word % 2 == 1) ∷ bits_of more (word / 2)

-- bits of a word, and those of words of 64, the inmost in the last
abbrev pub blocks_in : ℕ → ℕ → List ℕ → List Bool
blocks_in count inmost others = bits_of count inmost ++ flat_map (bits_of 64) (reverse others)

unfoldable pub open_blocks : Blocks → List Bool
open_blocks b = blocks_in b.count b.inmost b.others.items

-- the inmost block was closed, or none is open
abbrev pub Pops : Option Bool → List Bool → List Bool → Type 0
Pops (Some is_if) old new = old ≡ is_if ∷ new
Pops None old new = old ≡ []

-- a block was opened, or nothing was done
abbrev pub Opens : Bool → Bool → List Bool → List Bool → Type 0
Opens true is_if old new = new ≡ is_if ∷ old
Opens false is_if old new = new ≡ old

-- the inmost block was closed, and another is open; or nothing was done
abbrev pub Closes : Bool → List Bool → List Bool → Type 0
Closes true old new = (is_if other : Bool) × (blocks : List Bool) × (old ≡ is_if ∷ other ∷ blocks) × (new ≡ other ∷ blocks)
Closes false old new = new ≡ old

-- the inmost block, an `if`, is past its `else`; or nothing was done
abbrev pub BeginsElse : Bool → List Bool → List Bool → Type 0
BeginsElse true old new = (blocks : List Bool) × (old ≡ true ∷ blocks) × (new ≡ false ∷ blocks)
BeginsElse false old new = new ≡ old
