-- Operators that are passed over: they name no segment and no item but memory 0, and the bytes that spell them are their
-- text.
use Rattle.std.specs.Prelude.{◌≡◌, ◌≢◌, ◌⊎◌, ℕ, ◌<◌, ◌≤◌, List, [], ◌∷◌, ◌++◌, length, drop, Bool, true, false, Option, Some, None}
use Rattle.std.specs.List.{flat_map}
use Rattle.std.specs.Option.{option_map}
use Rattle.wc_read.specs.Operators.{InstrValue, WithBlock}
use Rattle.wc_read.specs.References.{refs_of, type_refs_of, one_ref, names_segment}
use Rattle.wc_read.specs.Nesting.{instr_token}
use Rattle.wc_read.specs.OperatorText.{block_type_text, instr_text}
use Rattle.wc_read.specs.BodyOperators.{operators_in}
use Rattle.wc_read.specs.Reading.Instructions.{block_type_at, instr_at}
use Rattle.wc_read.specs.Reading.Nesting.{step}
use Rattle.wc_read.specs.PassKinds.{begins_run}
use Rattle.wc_read.specs.declared.body_operators.Operators.{Operators}
use Rattle.wc_read.specs.declared.operators.BlockType.{BlockType}
use Rattle.wc_read.specs.declared.operators.Refs.{Refs}
use Rattle.wc_read.specs.declared.operators.Space.TheVariants.{Memories}

-- no items, or memory 0 alone where `memory` is so
abbrev pub ArePassable : Bool → Refs → Type 0
ArePassable memory refs = (refs ≡ one_ref None) ⊎ ((memory ≡ true) × (refs ≡ one_ref (Some (Memories, 0))))

-- an operator that names no other items, no segment, and no type among those of a `select`
abbrev pub IsPassable : Bool → InstrValue → Type 0
IsPassable memory i = ArePassable memory (refs_of i.immediates) × (names_segment i.immediates ≡ false) × (type_refs_of i.immediates ≡ [])

abbrev pub IsPassableCode : Bool → List InstrValue → Type 0
IsPassableCode memory [] = Unit {0}
IsPassableCode memory (i ∷ is) = IsPassable memory i × IsPassableCode memory is

-- bytes that are the text of such operators
abbrev pub IsRunText : Bool → List ℕ → List InstrValue → Type 0
IsRunText memory bytes is = (bytes ≡ flat_map instr_text is) × IsPassableCode memory is

-- operators, and those that are left after them, where what is left is the end of a body
abbrev pub run_and_left : List InstrValue → Option (List InstrValue) → Option (List InstrValue)
run_and_left run left = option_map (λ is. run ++ is) left

-- whether the next operator's code is one of those that are ever passed over
unfoldable pub may_pass : Operators → Bool
may_pass o = begins_run o.reader.rest.now

-- a byte that is a block's type by itself, one that names no item
pub record IsPlainType (byte : ℕ) : Type 0 where
  pub ty : BlockType
  pub names_none : refs_of (WithBlock ty) ≡ one_ref None
  pub text : block_type_text ty ≡ byte ∷ []
  pub reads : (left : List ℕ) → block_type_at (byte ∷ left) ≡ Some (ty, left)

-- a block was pass_block_start whose type is one byte; or nothing was done
abbrev pub PassesBlockStart : Bool → List Bool → List ℕ → List Bool → Option ℕ → Type 0
PassesBlockStart is_if old bytes new None = new ≡ old
PassesBlockStart is_if old bytes new (Some size) = (byte : ℕ) × (left : List ℕ) × (bytes ≡ byte ∷ left) × IsPlainType byte × (size ≡ 2) × (new ≡ is_if ∷ old)

-- an operator of so many bytes is passed over, and the blocks go past it; or nothing was done
pub record IsOperatorPassed (memory : Bool) (old : List Bool) (bytes : List ℕ) (new : List Bool) (size : ℕ) : Type 0 where
  pub operator : InstrValue
  pub left : List ℕ
  pub read : instr_at bytes ≡ Some (operator, left)
  pub cut : bytes ≡ instr_text operator ++ left
  pub size_is : size ≡ length (instr_text operator)
  pub passable : IsPassable memory operator
  pub steps : step old (instr_token operator) ≡ Some new

abbrev pub PassesOperator : Bool → List Bool → List ℕ → List Bool → Option ℕ → Type 0
PassesOperator memory old bytes new None = new ≡ old
PassesOperator memory old bytes new (Some size) = IsOperatorPassed memory old bytes new size

-- the size of an operator that is passed over in any block, whatever its memory
abbrev pub SizesShort : List ℕ → Option ℕ → Type 0
SizesShort bytes None = Unit {0}
SizesShort bytes (Some size) = (memory : Bool) (blocks : List Bool) → blocks ≢ [] → IsOperatorPassed memory blocks bytes blocks size

-- operators are passed over, and the blocks go past them
pub record AreOperatorsPassed (memory : Bool) (old : List Bool) (bytes : List ℕ) (new : List Bool) (left : List ℕ) : Type 0 where
  pub operators : List InstrValue
  pub cut : bytes ≡ flat_map instr_text operators ++ left
  pub passable : IsPassableCode memory operators
  pub same : operators_in old bytes ≡ run_and_left operators (operators_in new left)

-- operators of so many bytes are passed over, and the blocks go past them; or nothing was done
abbrev pub PassesRun : Bool → List Bool → List ℕ → List Bool → Option ℕ → Type 0
PassesRun memory old bytes new None = new ≡ old
PassesRun memory old bytes new (Some size) = AreOperatorsPassed memory old bytes new (drop size bytes) × (0 < size) × (size ≤ length bytes)
