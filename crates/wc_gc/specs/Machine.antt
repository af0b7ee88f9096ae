-- The small machine: what thirteen operators do, an `if` with its `end` as one (WebAssembly core specification,
-- 4.4 "Instructions"). An i32 is a number modulo 2 ^ 32. There is one memory, whose pages have 2 ^ exponent bytes, and
-- a call is one of a realloc: it leaves the machine with four operands, and comes back with one. Code with any other
-- operator, or with one that finds no operand, local or global, has no meaning here.
use Rattle.std.specs.Prelude.{ℕ, zero, suc, ◌+◌, ◌-◌, ◌*◌, ◌%◌, ◌^◌, ◌==◌, nat_le, ℤ, pos, negsuc, List, [], ◌∷◌, ◌++◌, Bool, true, false, ◌&&◌, if◌then◌else◌, Option, Some, None, slice_get, slice_set, replicate}
use Rattle.std.specs.List.{flat_map}
use Rattle.std.specs.Option.{option_map_or}
use Rattle.wc_read.specs.Operators.{ImmediatesValue, WithNone, WithBlock, WithIndex, WithI32, InstrValue}
use Rattle.wc_read.specs.Bodies.{BodyValue}
use Rattle.wc_read.specs.declared.bodies.Locals.{Locals}
use Rattle.wc_read.specs.declared.operators.Opcode.{Opcode}
use Rattle.wc_read.specs.declared.operators.Opcode.TheVariants.{Byte, Misc, Vector, Atomic}
use Rattle.wc_read.specs.declared.operators.Space.TheVariants.{Types, Funcs, Tables, Memories, Globals}
use Rattle.wc_read.specs.declared.operators.IndexKind.{IndexKind}
use Rattle.wc_read.specs.declared.operators.IndexKind.TheVariants.{In, Elem, Data, Local, Label}
use Rattle.wc_read.specs.declared.operators.BlockType.TheVariants.{Empty}
use Rattle.wc_gc.specs.declared.machine_operators.MachineOperator.{MachineOperator}
use Rattle.wc_gc.specs.declared.machine_operators.MachineOperator.TheVariants.{Unreachable, If, End, Call, LocalGet, LocalTee, GlobalGet, GlobalSet, MemoryGrow, I32Const, I32Eq, I32Ne, I32Add, I32Shl}

-- the operator that an operator of a body is, by its code and immediates

abbrev pub plain_operator : ℕ → Option MachineOperator
plain_operator code =
    if code == 0x00 then Some Unreachable
    else if code == 0x0b then Some End
    else if code == 0x46 then Some I32Eq
    else if code == 0x47 then Some I32Ne
    else if code == 0x6a then Some I32Add
    else if code == 0x74 then Some I32Shl else None

abbrev pub index_operator : ℕ → IndexKind → ℕ → Option MachineOperator
index_operator code (In Funcs) n = if code == 0x10 then Some (Call n) else None
index_operator code (In Globals) n =
    if code == 0x23 then Some (GlobalGet n) else if code == 0x24 then Some (GlobalSet n) else None
index_operator code (In Memories) n = if code == 0x40 then Some (MemoryGrow n) else None
index_operator code (In Types) n = None
index_operator code (In Tables) n = None
index_operator code Local n =
    if code == 0x20 then Some (LocalGet n) else if code == 0x22 then Some (LocalTee n) else None
index_operator code Elem n = None
index_operator code Data n = None
index_operator code Label n = None

abbrev pub byte_operator : ℕ → ImmediatesValue → Option MachineOperator
byte_operator code WithNone = plain_operator code
byte_operator code (WithBlock Empty) = if code == 0x04 then Some If else None
byte_operator code (WithIndex i) = index_operator code i.kind i.number
byte_operator code (WithI32 n) = if code == 0x41 then Some (I32Const n) else None
byte_operator code v = None

abbrev pub operator_by : Opcode → ImmediatesValue → Option MachineOperator
operator_by (Byte code) v = byte_operator code v
operator_by (Misc n) v = None
operator_by (Vector n) v = None
operator_by (Atomic n) v = None

abbrev pub operator_of : InstrValue → Option MachineOperator
operator_of i = operator_by i.opcode i.immediates

-- numbers

abbrev pub i32_of : ℤ → ℕ
i32_of (pos n) = n % 2 ^ 32
i32_of (negsuc n) = 2 ^ 32 - 1 - n % 2 ^ 32

abbrev pub bool_of : Bool → ℕ
bool_of true = 1
bool_of false = 0

-- states

-- how a growth of the memory is answered
pub data Growth : Type 0 where
  granted : Growth
  refused : Growth

-- what all code shares: globals, the memory's size in pages, and the answers to the growths to come
pub record Store : Type 0 where
  pub globals : List ℕ
  pub pages : ℕ
  pub growths : List Growth

-- what one call has: its locals, and its operands, the last one first
pub record Frame : Type 0 where
  pub locals : List ℕ
  pub operands : List ℕ

abbrev pub with_operands : Frame → List ℕ → Frame
with_operands f operands = record { locals = f.locals; operands = operands }

abbrev pub push : Frame → ℕ → Frame
push f x = with_operands f (x ∷ f.operands)

abbrev pub with_global : Store → ℕ → ℕ → Store
with_global s n x = record { globals = slice_set s.globals n x; pages = s.pages; growths = s.growths }

-- growth of the memory

-- a used-up list refuses
abbrev pub is_granted : List Growth → Bool
is_granted [] = false
is_granted (granted ∷ gs) = true
is_granted (refused ∷ gs) = false

abbrev pub later_growths : List Growth → List Growth
later_growths [] = []
later_growths (g ∷ gs) = gs

-- whether a growth succeeds: it is granted, and the new size is at most 2 ^ 32 bytes
abbrev pub can_grow : ℕ → Store → ℕ → Bool
can_grow page_size_log2 s more = is_granted s.growths && nat_le ((s.pages + more) * 2 ^ page_size_log2) (2 ^ 32)

abbrev pub grown_store : Store → ℕ → Store
grown_store s more = record { globals = s.globals; pages = s.pages + more; growths = later_growths s.growths }

-- one operator

pub data Step : Type 0 where
  goes_on : Frame → Store → Step
  -- a step to the `end` of an `if`
  skips : Frame → Store → Step
  traps : Step
  calls : ℕ → List ℕ → Frame → Store → Step
  no_step : Step

abbrev pub with_item : List ℕ → ℕ → (ℕ → Step) → Step
with_item xs n next = option_map_or next (slice_get xs n) no_step

abbrev pub with_operand : List ℕ → (ℕ → List ℕ → Step) → Step
with_operand [] next = no_step
with_operand (x ∷ xs) next = next x xs

-- of two operands the second one is on top
abbrev pub with_two : Frame → Store → (ℕ → ℕ → ℕ) → Step
with_two f s combine = with_operand f.operands (λ y ys.
    with_operand ys (λ x xs. goes_on (with_operands f (combine x y ∷ xs)) s))

abbrev pub call_step : ℕ → Frame → Store → Step
call_step func f s = with_operand f.operands (λ d ds. with_operand ds (λ c cs. with_operand cs (λ b bs.
    with_operand bs (λ a xs. calls func (a ∷ b ∷ c ∷ d ∷ []) (with_operands f xs) s))))

-- the answer is the old size, or -1
abbrev pub grow_step : ℕ → Frame → Store → Step
grow_step page_size_log2 f s = with_operand f.operands (λ more xs.
    if can_grow page_size_log2 s more
    then goes_on (with_operands f (s.pages % 2 ^ 32 ∷ xs)) (grown_store s more)
    else goes_on (with_operands f (i32_of (negsuc 0) ∷ xs)) (grown_store s 0))

unfoldable pub step : ℕ → MachineOperator → Frame → Store → Step
step page_size_log2 Unreachable f s = traps
step page_size_log2 If f s = with_operand f.operands (λ x xs.
    if x == 0 then skips (with_operands f xs) s else goes_on (with_operands f xs) s)
step page_size_log2 End f s = goes_on f s
step page_size_log2 (Call func) f s = call_step func f s
step page_size_log2 (LocalGet n) f s = with_item f.locals n (λ x. goes_on (push f x) s)
step page_size_log2 (LocalTee n) f s = with_item f.locals n (λ old. with_operand f.operands (λ x xs.
    goes_on (record { locals = slice_set f.locals n x; operands = f.operands }) s))
step page_size_log2 (GlobalGet n) f s = with_item s.globals n (λ x. goes_on (push f x) s)
step page_size_log2 (GlobalSet n) f s = with_item s.globals n (λ old. with_operand f.operands (λ x xs.
    goes_on (with_operands f xs) (with_global s n x)))
step page_size_log2 (MemoryGrow n) f s = if n == 0 then grow_step page_size_log2 f s else no_step
step page_size_log2 (I32Const n) f s = goes_on (push f (i32_of n)) s
step page_size_log2 I32Eq f s = with_two f s (λ x y. bool_of (x == y))
step page_size_log2 I32Ne f s = with_two f s (λ x y. if x == y then 0 else 1)
step page_size_log2 I32Add f s = with_two f s (λ x y. (x + y) % 2 ^ 32)
step page_size_log2 I32Shl f s = with_two f s (λ x y. (x * 2 ^ (y % 32)) % 2 ^ 32)

-- runs

-- a call that waits for the answer of a realloc: what is left of its code
pub record OpenCall : Type 0 where
  pub frame : Frame
  pub code : List InstrValue

pub data Outcome : Type 0 where
  -- a run at the end of the code, with results
  finished : Store → List ℕ → Outcome
  trapped : Outcome
  -- a run at a call of a function with arguments
  called : Store → ℕ → List ℕ → OpenCall → Outcome
  no_meaning : Outcome

-- how many `end`s are to be skipped after an operator that is skipped
abbrev pub ends_after : MachineOperator → ℕ → ℕ
ends_after If n = suc n
ends_after End n = n - 1
ends_after o n = n

abbrev pub with_operator : Option MachineOperator → (MachineOperator → Outcome) → Outcome
with_operator None next = no_meaning
with_operator (Some o) next = next o

-- a run that goes on after a step, with so many `end`s to be skipped
abbrev pub outcome_after : Step → List InstrValue → (ℕ → Frame → Store → Outcome) → Outcome
outcome_after (goes_on f s) code next = next 0 f s
outcome_after (skips f s) code next = next 1 f s
outcome_after traps code next = trapped
outcome_after (calls func args f s) code next = called s func args (record { frame = f; code = code })
outcome_after no_step code next = no_meaning

-- operators to the end of the code, of which the first are skipped up to so many `end`s
unfoldable pub code_outcome : ℕ → List InstrValue → ℕ → Frame → Store → Outcome
code_outcome page_size_log2 [] zero f s = finished s f.operands
code_outcome page_size_log2 [] (suc n) f s = no_meaning
code_outcome page_size_log2 (i ∷ is) zero f s =
    with_operator (operator_of i) (λ o. outcome_after (step page_size_log2 o f s) is (code_outcome page_size_log2 is))
code_outcome page_size_log2 (i ∷ is) (suc n) f s =
    with_operator (operator_of i) (λ o. code_outcome page_size_log2 is (ends_after o (suc n)) f s)

-- a body is called with arguments; its own locals are 0
unfoldable pub call_outcome : ℕ → BodyValue → List ℕ → Store → Outcome
call_outcome page_size_log2 b args s =
    let locals = args ++ flat_map (λ (l : Locals). replicate l.count 0) b.locals in
    code_outcome page_size_log2 b.operators 0 (record { locals = locals; operands = [] }) s

-- a call goes on after the answer
unfoldable pub answer_outcome : ℕ → OpenCall → ℕ → Store → Outcome
answer_outcome page_size_log2 w answer s = code_outcome page_size_log2 w.code 0 (push w.frame answer) s
