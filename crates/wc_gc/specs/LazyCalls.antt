-- Runs of code that allocates lazily, on the small machine: calls of it, and what else happens between and in them, as
-- a list of events. A call of the realloc may run other code before its answer, so calls of both nest.
use Rattle.std.specs.Prelude.{ℕ, ◌≢◌, List, [], ◌∷◌, Bool, true, false, if◌then◌else◌}
use Rattle.wc_read.specs.Bodies.{BodyValue}
use Rattle.wc_gc.specs.Machine.{Store, with_global, OpenCall, Outcome, finished, trapped, called, no_meaning, call_outcome, answer_outcome}

pub data Event : Type 0 where
  -- the lazy code is called
  begins : Event
  -- the last call of the realloc that has no answer yet gets this one
  answers : ℕ → Event
  -- the last call of the realloc that has no answer yet traps
  traps : Event
  -- other code writes a number into the state
  writes : ℕ → Event

-- a call of a function with arguments
pub record Request : Type 0 where
  pub func : ℕ
  pub args : List ℕ

-- how far a run is: what all code shares, the calls of the lazy code that wait for an answer, the calls that it made,
-- both the last one first, and whether something trapped, or met code that has no meaning here
pub record Situation : Type 0 where
  pub store : Store
  pub open_calls : List OpenCall
  pub requests : List Request
  pub stopped : Bool

abbrev pub start_of : Store → Situation
start_of s = record { store = s; open_calls = []; requests = []; stopped = false }

abbrev pub with_store : Situation → Store → Situation
with_store x s = record { store = s; open_calls = x.open_calls; requests = x.requests; stopped = x.stopped }

abbrev pub with_open_calls : Situation → List OpenCall → Situation
with_open_calls x ws = record { store = x.store; open_calls = ws; requests = x.requests; stopped = x.stopped }

abbrev pub with_stop : Situation → Situation
with_stop x = record { store = x.store; open_calls = x.open_calls; requests = x.requests; stopped = true }

-- the lazy code ran up to a call of the realloc, or to its end
abbrev pub after_run : Situation → Outcome → Situation
after_run x (finished s results) = with_store x s
after_run x trapped = with_stop x
after_run x (called s func args w) = record {
  store = s;
  open_calls = w ∷ x.open_calls;
  requests = record { func = func; args = args } ∷ x.requests;
  stopped = x.stopped;
}
after_run x no_meaning = with_stop x

-- without a call that waits nothing happens
abbrev pub after_answer : ℕ → ℕ → Situation → List OpenCall → Situation
after_answer page_size_log2 answer x [] = x
after_answer page_size_log2 answer x (w ∷ ws) = after_run (with_open_calls x ws) (answer_outcome page_size_log2 w answer x.store)

abbrev pub after_trap : Situation → List OpenCall → Situation
after_trap x [] = x
after_trap x (w ∷ ws) = with_stop x

-- what an event does to a run of lazy code, whose state is a global
abbrev pub after_next : ℕ → BodyValue → ℕ → Event → Situation → Situation
after_next page_size_log2 code state begins x = after_run x (call_outcome page_size_log2 code [] x.store)
after_next page_size_log2 code state (answers n) x = after_answer page_size_log2 n x x.open_calls
after_next page_size_log2 code state traps x = after_trap x x.open_calls
after_next page_size_log2 code state (writes n) x = with_store x (with_global x.store state n)

-- after a trap nothing runs
abbrev pub after_event : ℕ → BodyValue → ℕ → Event → Situation → Situation
after_event page_size_log2 code state event x = if x.stopped then x else after_next page_size_log2 code state event x

abbrev pub after_events : ℕ → BodyValue → ℕ → List Event → Situation → Situation
after_events page_size_log2 code state [] x = x
after_events page_size_log2 code state (event ∷ events) x =
    after_events page_size_log2 code state events (after_event page_size_log2 code state event x)

-- events in which other code writes no 0
abbrev pub WritesNoZero : Event → Type 0
WritesNoZero (writes n) = n ≢ 0
WritesNoZero event = Unit {0}

-- events in which no other code writes
abbrev pub WritesNothing : Event → Type 0
WritesNothing (writes n) = ⊥
WritesNothing event = Unit {0}

-- events in which no realloc traps
abbrev pub IsNoTrap : Event → Type 0
IsNoTrap traps = ⊥
IsNoTrap event = Unit {0}
