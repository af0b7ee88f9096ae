-- What the code that trimming adds does on the small machine.
use Rattle.std.specs.Prelude.{◌≡◌, ◌≢◌, ℕ, ◌+◌, ◌*◌, ◌/◌, ◌%◌, ◌^◌, ◌<◌, ◌≤◌, List, [], ◌∷◌, ◌++◌, length, true, false, Option, Some, None, slice_get, All}
use Rattle.wc_read.specs.Bodies.{BodyValue, SpellsBody}
use Rattle.wc_write.specs.Text.{FitsSize}
use Rattle.wc_write.specs.Bodies.{body_text}
use Rattle.wc_write.specs.Values.{IsBody}
use Rattle.wc_gc.specs.Machine.{Store, with_global, can_grow, grown_store, OpenCall, finished, trapped, called, call_outcome, answer_outcome}
use Rattle.wc_gc.specs.LazyCalls.{Event, begins, answers, Request, Situation, start_of, after_event, after_events, WritesNoZero, WritesNothing, IsNoTrap}

-- a body that its text spells, and no other body, as a law of wc_write says
abbrev pub IsSpellable : BodyValue → Type 0
IsSpellable b = IsBody b × FitsSize (body_text b)

-- bytes that spell a body of some kind, and no other body
pub record SpellsOnly (IsOfKind : BodyValue → Type 0) (bytes : List ℕ) : Type 0 where
  pub body : BodyValue
  pub spelled : SpellsBody bytes body
  pub unique : (other : BodyValue) → SpellsBody bytes other → other ≡ body
  pub is_of_kind : IsOfKind body

-- the growing realloc

-- the bytes of a stack
abbrev pub stack_size : ℕ
stack_size = 65536

-- the pages of a stack
abbrev pub stack_pages : ℕ → ℕ
stack_pages page_size_log2 = stack_size / 2 ^ page_size_log2

-- the arguments of a realloc: old pointer, old length, alignment, new length
abbrev pub stack_request : ℕ → List ℕ
stack_request align = 0 ∷ 0 ∷ align ∷ stack_size ∷ []

-- a realloc that gives out blocks of a stack's size, over a memory whose pages have 2 ^ exponent bytes
pub record IsGrowingRealloc (page_size_log2 : ℕ) (b : BodyValue) : Type 0 where
  -- the realloc traps unless the old pointer and the old length are 0 and the new length is a stack's
  pub others_trap : (s : Store) (pointer old_length align new_length : ℕ) →
      ¬ ((pointer ≡ 0) × (old_length ≡ 0) × (new_length ≡ stack_size)) →
      call_outcome page_size_log2 b (pointer ∷ old_length ∷ align ∷ new_length ∷ []) s ≡ trapped
  -- asked for a stack, with any alignment, the realloc grows the memory by the pages of a stack, and answers the old
  -- size in bytes
  pub grows : (s : Store) (align : ℕ) → can_grow page_size_log2 s (stack_pages page_size_log2) ≡ true →
      call_outcome page_size_log2 b (stack_request align) s
      ≡ finished (grown_store s (stack_pages page_size_log2)) (s.pages * 2 ^ page_size_log2 ∷ [])
  -- the realloc traps where growth is refused
  pub refused_trap : (s : Store) (align : ℕ) → can_grow page_size_log2 s (stack_pages page_size_log2) ≡ false →
      call_outcome page_size_log2 b (stack_request align) s ≡ trapped

-- the allocation of a stack

-- the end of a block of a stack's size, modulo 2 ^ 32
abbrev pub block_end : ℕ → ℕ
block_end pointer = (pointer + stack_size) % 2 ^ 32

-- the value of a global
abbrev pub IsGlobal : Store → ℕ → ℕ → Type 0
IsGlobal s n x = slice_get s.globals n ≡ Some x

abbrev pub IsThere : Store → ℕ → Type 0
IsThere s n = n < length s.globals

-- code that asks a realloc for a stack. Where that answers, in whatever store, the stack pointer becomes the block's
-- end, and nothing else changes
abbrev pub AllocatesStack : ℕ → ℕ → BodyValue → Type 0
AllocatesStack realloc stack b = (page_size_log2 : ℕ) (s : Store) → (w : OpenCall)
    × (call_outcome page_size_log2 b [] s ≡ called s realloc (stack_request 8) w)
    × ((answer : ℕ) (t : Store) → IsThere t stack →
    answer_outcome page_size_log2 w answer t ≡ finished (with_global t stack (block_end answer)) [])

-- an allocated stack: the state is 2, and the stack pointer is the end of the block
pub record IsAllocated (s : Store) (stack state pointer : ℕ) : Type 0 where
  pub state_is_two : IsGlobal s state 2
  pub stack_is_end : IsGlobal s stack (block_end pointer)

abbrev pub allocated_store : ℕ → ℕ → Store → ℕ → Store
allocated_store stack state s pointer = with_global (with_global s stack (block_end pointer)) state 2

abbrev pub stack_call : ℕ → Request
stack_call realloc = record { func = realloc; args = stack_request 8 }

-- runs of code with a state, from a store in which no call waits: any events, in which other code writes no 0 into the
-- state
pub record AllocatesOnce (realloc stack state : ℕ) (b : BodyValue) (page_size_log2 : ℕ) (s : Store) : Type 0 where
  -- the realloc is called at most once
  pub at_most_once : (events : List Event) → All WritesNoZero events →
      length (after_events page_size_log2 b state events (start_of s)).requests ≤ 1
  -- the realloc is called exactly once, for a stack, where a call of the code finds 0
  pub once_at_zero : (events later : List Event) → All WritesNoZero events → All WritesNoZero later →
      (after_events page_size_log2 b state events (start_of s)).stopped ≡ false →
      IsGlobal (after_events page_size_log2 b state events (start_of s)).store state 0 →
      (after_events page_size_log2 b state (events ++ (begins ∷ later)) (start_of s)).requests ≡ stack_call realloc ∷ []
  -- once that call has its answer the state is 2, if nothing else writes it
  pub then_allocated : (events later : List Event) (answer : ℕ) → All WritesNoZero events → All WritesNothing later →
      (after_events page_size_log2 b state events (start_of s)).stopped ≡ false →
      (after_events page_size_log2 b state events (start_of s)).open_calls ≢ [] →
      IsAllocated (after_events page_size_log2 b state (events ++ (answers answer ∷ later)) (start_of s)).store
      stack state answer
  -- only a trap of the realloc stops
  pub goes_on : (events : List Event) → All WritesNoZero events → All IsNoTrap events →
      (after_events page_size_log2 b state events (start_of s)).stopped ≡ false

-- code that does so where a state is 0, which is 1 when the realloc is called, and 2 after the answer; nothing else
-- changes
pub record AllocatesLazily (realloc stack state : ℕ) (b : BodyValue) : Type 0 where
  pub at_zero : (page_size_log2 : ℕ) (s : Store) → IsGlobal s state 0 → (w : OpenCall)
      × (call_outcome page_size_log2 b [] s ≡ called (with_global s state 1) realloc (stack_request 8) w)
      × ((answer : ℕ) (t : Store) → IsThere t stack → IsThere t state →
      (answer_outcome page_size_log2 w answer t ≡ finished (allocated_store stack state t answer) [])
      × IsAllocated (allocated_store stack state t answer) stack state answer)
  -- a call that finds another state changes nothing and calls nothing
  pub at_other : (page_size_log2 n : ℕ) (x : Situation) → IsGlobal x.store state n → n ≢ 0 →
      (call_outcome page_size_log2 b [] x.store ≡ finished x.store []) × (after_event page_size_log2 b state begins x ≡ x)
  pub in_runs : (page_size_log2 : ℕ) (s : Store) → IsThere s stack → IsThere s state →
      AllocatesOnce realloc stack state b page_size_log2 s

-- code that allocates a stack, lazily where it has a state, which is another global than the stack pointer
abbrev pub IsStackCode : ℕ → ℕ → Option ℕ → BodyValue → Type 0
IsStackCode realloc stack None b = AllocatesStack realloc stack b
IsStackCode realloc stack (Some state) b = stack ≢ state → AllocatesLazily realloc stack state b
