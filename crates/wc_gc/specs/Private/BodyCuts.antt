-- Bodies cut at the operators that name an item by one index.
use Rattle.std.specs.Prelude.{◌≡◌, ◌≢◌, ℕ, ◌+◌, ◌≤◌, List, [], ◌∷◌, ◌++◌, length, take, drop, Bool, true, cond, Option, Some, is_some, unwrap_or}
use Rattle.std.specs.Borrow.{Bor}
use Rattle.std.specs.List.{flat_map, slice_get}
use Rattle.wc_read.specs.Operators.{InstrValue, WithIndex, index_of}
use Rattle.wc_read.specs.Bodies.{BodyValue}
use Rattle.wc_read.specs.BodyOperators.{body_operators}
use Rattle.wc_read.specs.Items.{local}
use Rattle.wc_read.specs.Renumbering.{Renumbering}
use Rattle.wc_read.specs.Passing.{IsRunText, run_and_left}
use Rattle.wc_read.specs.declared.items.Item.{Item}
use Rattle.wc_read.specs.declared.operators.IndexKind.TheVariants.{In}
use Rattle.wc_read.specs.declared.operators.Space.TheVariants.{Memories}
use Rattle.wc_read.specs.declared.operators.Opcode.TheVariants.{Byte}
use Rattle.wc_read.specs.Decoded.{func_code}
use Rattle.wc_gc.specs.Image.{renumber_code}
use Rattle.wc_write.specs.Operators.{instr_text}
use Rattle.wc_gc.specs.declared.body_cuts.BodyCut.{BodyCut}
use Rattle.wc_gc.specs.declared.body_cuts.Stretch.{Stretch}

-- functions that were read
abbrev pub ReadFuncs : Type 0
ReadFuncs = List (Item ℕ (Bor (List ℕ)))

-- bytes that are the text of operators that name no item but memory 0
abbrev pub IsPassedText : List ℕ → List InstrValue → Type 0
IsPassedText bytes is = (memory : Bool) × IsRunText memory bytes is

-- the operator at the end of a stretch, if there is one
abbrev pub operator_after : Stretch → List InstrValue
operator_after s = cond s.named (record { opcode = Byte s.code; immediates = WithIndex (index_of (In s.space) s.number) } ∷ []) []

-- the text of operators that are left, under new indices
abbrev pub text_left : Renumbering → Option (List InstrValue) → List ℕ
text_left new left = flat_map instr_text (renumber_code new (unwrap_or left []))

-- the text of a stretch under new indices
abbrev pub stretch_text : Renumbering → Stretch → List ℕ
stretch_text new s = s.run.now ++ text_left new (Some (operator_after s))

-- operators were cut, up to those that are left: under all indices under which memory 0 is memory 0, the texts of the
-- stretches and of what is left are that of all
abbrev pub AreCutTo : List Stretch → Option (List InstrValue) → Option (List InstrValue) → Type 0
AreCutTo ss all left =
    is_some left ≡ true → (new : Renumbering) → new Memories 0 ≡ 0 → flat_map (stretch_text new) ss ++ text_left new left ≡ text_left new all

-- the texts of stretches are that of a body's operators, under all such indices
abbrev pub IsBodyCut : List Stretch → Option BodyValue → Type 0
IsBodyCut ss body = (new : Renumbering) → new Memories 0 ≡ 0 → flat_map (stretch_text new) ss ≡ text_left new (body_operators body)

-- so are those of a function's body
abbrev pub IsFuncCut : List Stretch → Item ℕ (Bor (List ℕ)) → Type 0
IsFuncCut ss f = (body : Option BodyValue) → (func_code f).def ≡ local body → IsBodyCut ss body

-- where stretches are all there, they are those of a body
abbrev pub IsCutIfKept : BodyCut → Option BodyValue → Type 0
IsCutIfKept c body = c.is_kept ≡ true → IsBodyCut c.stretches.items body

abbrev pub IsFuncCutIfKept : BodyCut → Item ℕ (Bor (List ℕ)) → Type 0
IsFuncCutIfKept c f = c.is_kept ≡ true → IsFuncCut c.stretches.items f

-- the stretches, if there are any, are those of the function at an index
abbrev pub AreCutAt : ReadFuncs → ℕ → List Stretch → Type 0
AreCutAt funcs n ss = ss ≢ [] → (f : Item ℕ (Bor (List ℕ))) → slice_get funcs n ≡ Some f → IsFuncCut ss f

-- where the body that is read is kept, it is that of the function at an index
abbrev pub IsOpenAt : ReadFuncs → ℕ → BodyCut → Type 0
IsOpenAt funcs n c = (f : Item ℕ (Bor (List ℕ))) → slice_get funcs n ≡ Some f → IsFuncCutIfKept c f

-- the stretches of a span
abbrev pub stretches_in : List Stretch → ℕ × ℕ → List Stretch
stretches_in ss span = take span.1 (drop span.0 ss)

-- each span has stretches that are there
abbrev pub AreWithin : List Stretch → List (ℕ × ℕ) → Type 0
AreWithin ss spans = (n : ℕ) (span : ℕ × ℕ) → slice_get spans n ≡ Some span → span.0 + span.1 ≤ length ss

-- they are those of its function, or none
abbrev pub AreCut : ReadFuncs → List Stretch → List (ℕ × ℕ) → Type 0
AreCut funcs ss spans = (n : ℕ) (span : ℕ × ℕ) → slice_get spans n ≡ Some span → AreCutAt funcs n (stretches_in ss span)

-- one more stretch, with these operators after it, and no run after that, where all are there still
abbrev pub Adds : BodyCut → BodyCut → List InstrValue → Type 0
Adds old new is =
    new.is_kept ≡ true → (old.is_kept ≡ true) × (new.run.now ≡ []) × ((s : Stretch) × (new.stretches.items ≡ old.stretches.items ++ s ∷ []) × (s.run.now ≡ old.run.now) × (operator_after s ≡ is))

-- operators were passed, and their text is the run, if all stretches are there and there was none; nothing else changes
abbrev pub Passes : BodyCut → BodyCut → Option (List InstrValue) → Option (List InstrValue) → Type 0
Passes old new all left =
    (run : List InstrValue) × (new.is_kept ≡ true → old.run.now ≡ [] → IsPassedText new.run.now run) × (all ≡ run_and_left run left) × (new.stretches.items ≡ old.stretches.items) × (new.is_kept ≡ old.is_kept)
