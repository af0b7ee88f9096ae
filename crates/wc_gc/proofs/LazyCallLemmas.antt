-- Runs of the code that allocates a stack lazily.
use Rattle.std.proofs.Common.{◌≡◌, ◌≢◌, ℕ, ◌≤◌, List, [], ◌∷◌, ◌++◌, length, get_or, Bool, true, false, sym, ◌∙◌, ap, refl, subst, arith, ◌⊎◌, inl, inr, Option, Some, None, if◌then◌else◌}
use Rattle.std.specs.Prelude.{All}
use Rattle.std.proofs.lemmas.Option.{same_Some}
use Rattle.std.proofs.lemmas.Bool.{ne_eqb}
use Rattle.std.proofs.lemmas.Bool.Decides.{eqb_tells}
use Rattle.std.proofs.lemmas.List.Elements.{All-head, All-tail}
use Rattle.wc_read.specs.Bodies.{BodyValue}
use Rattle.wc_gc.specs.AddedCode.{stack_body}
use Rattle.wc_gc.specs.Machine.{Store, with_global}
use Rattle.wc_gc.specs.LazyCalls.{Event, begins, answers, traps, writes, Situation, start_of, after_run, after_event, after_events, WritesNoZero, WritesNothing, IsNoTrap}
use Rattle.wc_gc.specs.MachineLaws.{block_end, IsGlobal, IsThere, IsAllocated, allocated_store, stack_call, AllocatesOnce, AllocatesLazily, IsStackCode}
use Rattle.wc_gc.proofs.MachineLemmas.{global_at, global_set, is_there, there_stays}
use Rattle.wc_gc.proofs.AddedCodeRunLemmas.{once_rest, enter_once, enter_again, resume_there, is_allocated, allocates_stack}

cond_same : (b : Bool) (x y : Situation) → y ≡ x → (if b then x else y) ≡ x
cond_same true x y h = refl
cond_same false x y h = h

module _ (e realloc stack state : ℕ) where
  abbrev event_of : Event → Situation → Situation
  event_of = after_event e (stack_body realloc stack (Some state)) state

  abbrev run_of : List Event → Situation → Situation
  run_of = after_events e (stack_body realloc stack (Some state)) state

  pub changes_nothing : (n : ℕ) (x : Situation) → IsGlobal x.store state n → n ≢ 0 → event_of begins x ≡ x
  changes_nothing n x h other =
      cond_same x.stopped x _ (ap (after_run x) (enter_again e realloc stack state n x.store h (ne_eqb n 0 other)))

after-append : (e : ℕ) (code : BodyValue) (state : ℕ) (events later : List Event) (x : Situation) → after_events e code state (events ++ later) x ≡ after_events e code state later (after_events e code state events x)
after-append e code state [] later x = refl
after-append e code state (event ∷ events) later x = after-append e code state events later (after_event e code state event x)

-- the stack pointer is there, and the state is not 0
record IsTaken (stack state : ℕ) (s : Store) : Type 0 where
  stack_is_there : IsThere s stack
  value : ℕ
  is_state : IsGlobal s state value
  no_zero : value ≢ 0

module _ (e realloc stack state : ℕ) (distinct : stack ≢ state) where
  abbrev asking_at : Store → Situation
  asking_at s = record { store = s; open_calls = once_rest stack state ∷ []; requests = stack_call realloc ∷ []; stopped = false }

  abbrev answered_at : Store → Situation
  answered_at s = record { store = s; open_calls = []; requests = stack_call realloc ∷ []; stopped = false }

  abbrev halted_at : Store → Situation
  halted_at s = record { store = s; open_calls = once_rest stack state ∷ []; requests = stack_call realloc ∷ []; stopped = true }

  -- stores

  taken : (s : Store) (n : ℕ) → IsThere s stack → IsThere s state → n ≢ 0 → IsTaken stack state (with_global s state n)
  taken s n stack_there state_there other = record {
    stack_is_there = there_stays s state n stack stack_there;
    value = n;
    is_state = global_set s state n state_there;
    no_zero = other;
  }

  written : (s : Store) (n : ℕ) → n ≢ 0 → IsTaken stack state s → IsTaken stack state (with_global s state n)
  written s n other t = taken s n t.stack_is_there (is_there s state t.value t.is_state) other

  answered : (s : Store) (answer : ℕ) → IsTaken stack state s → IsTaken stack state (allocated_store stack state s answer)
  answered s answer t =
      let there = there_stays s stack (block_end answer) in
      taken (with_global s stack (block_end answer)) 2 (there stack t.stack_is_there) (there state (is_there s state t.value t.is_state)) (λ two. cc)

  -- events

  at_zero : (s : Store) → IsGlobal s state 0 → event_of e realloc stack state begins (start_of s) ≡ asking_at (with_global s state 1)
  at_zero s h = ap (after_run (start_of s)) (enter_once e realloc stack state s h)

  at_other : (x : Situation) → IsTaken stack state x.store → event_of e realloc stack state begins x ≡ x
  at_other x t = changes_nothing e realloc stack state t.value x t.is_state t.no_zero

  at_answer : (s : Store) (answer : ℕ) → IsTaken stack state s → event_of e realloc stack state (answers answer) (asking_at s) ≡ answered_at (allocated_store stack state s answer)
  at_answer s answer t = ap (after_run (answered_at s)) (resume_there stack state answer s t.stack_is_there (is_there s state t.value t.is_state) e)

  -- where a run is, before the realloc is called and after

  data IsUnasked : Situation → Type 0 where
    unasked : (s : Store) → IsThere s stack → IsThere s state → IsUnasked (start_of s)

  data IsAsked : Situation → Type 0 where
    is_asking : (s : Store) → IsTaken stack state s → IsAsked (asking_at s)
    is_answered : (s : Store) → IsTaken stack state s → IsAsked (answered_at s)
    is_halted : (s : Store) → IsAsked (halted_at s)

  asked_next : (event : Event) → WritesNoZero event → {x : Situation} → IsAsked x → IsAsked (event_of e realloc stack state event x)
  asked_next begins fine (is_asking s t) = subst IsAsked (sym (at_other (asking_at s) t)) (is_asking s t)
  asked_next (answers n) fine (is_asking s t) = subst IsAsked (sym (at_answer s n t)) (is_answered (allocated_store stack state s n) (answered s n t))
  asked_next traps fine (is_asking s t) = is_halted s
  asked_next (writes n) fine (is_asking s t) = is_asking (with_global s state n) (written s n fine t)
  asked_next begins fine (is_answered s t) = subst IsAsked (sym (at_other (answered_at s) t)) (is_answered s t)
  asked_next (answers n) fine (is_answered s t) = is_answered s t
  asked_next traps fine (is_answered s t) = is_answered s t
  asked_next (writes n) fine (is_answered s t) = is_answered (with_global s state n) (written s n fine t)
  asked_next event fine (is_halted s) = is_halted s

  unasked_next : (event : Event) → WritesNoZero event → {x : Situation} → IsUnasked x → IsUnasked (event_of e realloc stack state event x) ⊎ IsAsked (event_of e realloc stack state event x)
  unasked_next begins fine (unasked s stack_there state_there) =
      let h = global_at s state state_there in
      elim (eqb_tells (get_or s.globals state 0) 0) [
        | inl t ↦ inr (subst IsAsked (sym (at_zero s (h ∙ ap Some t.1))) (is_asking (with_global s state 1) (taken s 1 stack_there state_there (λ one. cc))))
        | inr t ↦ inl (subst IsUnasked (sym (changes_nothing e realloc stack state (get_or s.globals state 0) (start_of s) h t.1)) (unasked s stack_there state_there))
      ]
  unasked_next (answers n) fine (unasked s stack_there state_there) = inl (unasked s stack_there state_there)
  unasked_next traps fine (unasked s stack_there state_there) = inl (unasked s stack_there state_there)
  unasked_next (writes n) fine (unasked s stack_there state_there) = inl (unasked (with_global s state n) (there_stays s state n stack stack_there) (there_stays s state n state state_there))

  -- runs

  asked_run : (events : List Event) → All WritesNoZero events → {x : Situation} → IsAsked x → IsAsked (run_of e realloc stack state events x)
  asked_run [] all at = at
  asked_run (event ∷ events) all at = asked_run events (All-tail WritesNoZero event events all) (asked_next event (All-head WritesNoZero event events all) at)

  unasked_run : (events : List Event) → All WritesNoZero events → {x : Situation} → IsUnasked x → IsUnasked (run_of e realloc stack state events x) ⊎ IsAsked (run_of e realloc stack state events x)
  unasked_run [] all at = inl at
  unasked_run (event ∷ events) all at =
      let rest = All-tail WritesNoZero event events all in
      elim (unasked_next event (All-head WritesNoZero event events all) at) [
        | inl k ↦ unasked_run events rest k
        | inr k ↦ inr (asked_run events rest k)
      ]

  -- without writes nothing changes an answered run
  quiet_run : (events : List Event) → All WritesNothing events → (s : Store) → IsTaken stack state s → run_of e realloc stack state events (answered_at s) ≡ answered_at s
  quiet_run [] all s t = refl
  quiet_run (begins ∷ events) all s t = ap (run_of e realloc stack state events) (at_other (answered_at s) t) ∙ quiet_run events (All-tail WritesNothing begins events all) s t
  quiet_run (answers n ∷ events) all s t = quiet_run events (All-tail WritesNothing (answers n) events all) s t
  quiet_run (traps ∷ events) all s t = quiet_run events (All-tail WritesNothing traps events all) s t
  quiet_run (writes n ∷ events) all s t = absurd (All-head WritesNothing (writes n) events all)

  -- what follows of where a run is

  asked_once : {x : Situation} → IsAsked x → x.requests ≡ stack_call realloc ∷ []
  asked_once (is_asking s t) = refl
  asked_once (is_answered s t) = refl
  asked_once (is_halted s) = refl

  -- an asked run that goes on finds no 0
  no_zero_found : {x : Situation} → IsAsked x → x.stopped ≡ false → IsGlobal x.store state 0 → ⊥
  no_zero_found (is_asking s t) going h = t.no_zero (same_Some t.value 0 (sym t.is_state ∙ h))
  no_zero_found (is_answered s t) going h = t.no_zero (same_Some t.value 0 (sym t.is_state ∙ h))
  no_zero_found (is_halted s) going h = cc

  unasked_asks : {x : Situation} → IsUnasked x → IsGlobal x.store state 0 → IsAsked (event_of e realloc stack state begins x)
  unasked_asks (unasked s stack_there state_there) h = subst IsAsked (sym (at_zero s h)) (is_asking (with_global s state 1) (taken s 1 stack_there state_there (λ one. cc)))

  unasked_bounded : {x : Situation} → IsUnasked x → length x.requests ≤ 1
  unasked_bounded (unasked s stack_there state_there) = omega arith

  unasked_waits : {x : Situation} → IsUnasked x → x.open_calls ≡ []
  unasked_waits (unasked s stack_there state_there) = refl

  answered_then : (answer : ℕ) (later : List Event) → All WritesNothing later → {x : Situation} → IsAsked x → x.stopped ≡ false → x.open_calls ≢ [] → IsAllocated (run_of e realloc stack state later (event_of e realloc stack state (answers answer) x)).store stack state answer
  answered_then answer later all (is_asking s t) going waits =
      let same = ap (run_of e realloc stack state later) (at_answer s answer t) ∙ quiet_run later all (allocated_store stack state s answer) (answered s answer t) in
      subst (λ (x : Situation). IsAllocated x.store stack state answer) (sym same)
      (is_allocated stack state answer s t.stack_is_there (is_there s state t.value t.is_state) distinct)
  answered_then answer later all (is_answered s t) going waits = absurd (waits refl)
  answered_then answer later all (is_halted s) going waits = cc

  -- where no realloc traps a run goes on

  asked_goes_on : (event : Event) → IsNoTrap event → {x : Situation} → IsAsked x → x.stopped ≡ false → (event_of e realloc stack state event x).stopped ≡ false
  asked_goes_on begins fine (is_asking s t) going = ap (λ (x : Situation). x.stopped) (at_other (asking_at s) t)
  asked_goes_on (answers n) fine (is_asking s t) going = ap (λ (x : Situation). x.stopped) (at_answer s n t)
  asked_goes_on traps fine (is_asking s t) going = absurd fine
  asked_goes_on (writes n) fine (is_asking s t) going = refl
  asked_goes_on begins fine (is_answered s t) going = ap (λ (x : Situation). x.stopped) (at_other (answered_at s) t)
  asked_goes_on (answers n) fine (is_answered s t) going = refl
  asked_goes_on traps fine (is_answered s t) going = refl
  asked_goes_on (writes n) fine (is_answered s t) going = refl
  asked_goes_on event fine (is_halted s) going = cc

  unasked_goes_on : (event : Event) → {x : Situation} → IsUnasked x → (event_of e realloc stack state event x).stopped ≡ false
  unasked_goes_on begins (unasked s stack_there state_there) =
      let h = global_at s state state_there in
      elim (eqb_tells (get_or s.globals state 0) 0) [
        | inl t ↦ ap (λ (x : Situation). x.stopped) (at_zero s (h ∙ ap Some t.1))
        | inr t ↦ ap (λ (x : Situation). x.stopped) (changes_nothing e realloc stack state (get_or s.globals state 0) (start_of s) h t.1)
      ]
  unasked_goes_on (answers n) (unasked s stack_there state_there) = refl
  unasked_goes_on traps (unasked s stack_there state_there) = refl
  unasked_goes_on (writes n) (unasked s stack_there state_there) = refl

  asked_runs_on : (events : List Event) → All WritesNoZero events → All IsNoTrap events → {x : Situation} → IsAsked x → x.stopped ≡ false → (run_of e realloc stack state events x).stopped ≡ false
  asked_runs_on [] all none at going = going
  asked_runs_on (event ∷ events) all none at going =
      asked_runs_on events (All-tail WritesNoZero event events all) (All-tail IsNoTrap event events none)
      (asked_next event (All-head WritesNoZero event events all) at) (asked_goes_on event (All-head IsNoTrap event events none) at going)

  unasked_runs_on : (events : List Event) → All WritesNoZero events → All IsNoTrap events → {x : Situation} → IsUnasked x → x.stopped ≡ false → (run_of e realloc stack state events x).stopped ≡ false
  unasked_runs_on [] all none at going = going
  unasked_runs_on (event ∷ events) all none at going =
      let rest = All-tail WritesNoZero event events all in
      let going = unasked_goes_on event at in
      elim (unasked_next event (All-head WritesNoZero event events all) at) [
        | inl k ↦ unasked_runs_on events rest (All-tail IsNoTrap event events none) k going
        | inr k ↦ asked_runs_on events rest (All-tail IsNoTrap event events none) k going
      ]

  -- all runs from a store

  module _ (s : Store) (stack_there : IsThere s stack) (state_there : IsThere s state) where
    start : IsUnasked (start_of s)
    start = unasked s stack_there state_there

    run_then : (events later : List Event) (event : Event) → run_of e realloc stack state (events ++ (event ∷ later)) (start_of s) ≡ run_of e realloc stack state later (event_of e realloc stack state event (run_of e realloc stack state events (start_of s)))
    run_then events later event = after-append e (stack_body realloc stack (Some state)) state events (event ∷ later) (start_of s)

    bounded_requests : (events : List Event) → All WritesNoZero events → length (run_of e realloc stack state events (start_of s)).requests ≤ 1
    bounded_requests events all = elim (unasked_run events all start) [
      | inl k ↦ unasked_bounded k
      | inr k ↦ rw (asked_once k) (omega arith)
    ]

    asked_at_zero : (events later : List Event) → All WritesNoZero events → All WritesNoZero later → (run_of e realloc stack state events (start_of s)).stopped ≡ false → IsGlobal (run_of e realloc stack state events (start_of s)).store state 0 → (run_of e realloc stack state (events ++ (begins ∷ later)) (start_of s)).requests ≡ stack_call realloc ∷ []
    asked_at_zero events later all all_later going h = elim (unasked_run events all start) [
      | inl k ↦ rw (run_then events later begins) (asked_once (asked_run later all_later (unasked_asks k h)))
      | inr k ↦ absurd (no_zero_found k going h)
    ]

    allocated_then : (events later : List Event) (answer : ℕ) → All WritesNoZero events → All WritesNothing later → (run_of e realloc stack state events (start_of s)).stopped ≡ false → (run_of e realloc stack state events (start_of s)).open_calls ≢ [] → IsAllocated (run_of e realloc stack state (events ++ (answers answer ∷ later)) (start_of s)).store stack state answer
    allocated_then events later answer all all_later going waits = elim (unasked_run events all start) [
      | inl k ↦ absurd (waits (unasked_waits k))
      | inr k ↦ subst (λ (x : Situation). IsAllocated x.store stack state answer) (sym (run_then events later (answers answer))) (answered_then answer later all_later k going waits)
    ]

module _ (realloc stack state : ℕ) (distinct : stack ≢ state) where
  allocates_once : (e : ℕ) (s : Store) → IsThere s stack → IsThere s state → AllocatesOnce realloc stack state (stack_body realloc stack (Some state)) e s
  allocates_once e s stack_there state_there = record {
    at_most_once = bounded_requests e realloc stack state distinct s stack_there state_there;
    once_at_zero = asked_at_zero e realloc stack state distinct s stack_there state_there;
    then_allocated = allocated_then e realloc stack state distinct s stack_there state_there;
    goes_on = λ events all none. unasked_runs_on e realloc stack state distinct events all none (start e realloc stack state distinct s stack_there state_there) refl;
  }

  allocates_lazily : AllocatesLazily realloc stack state (stack_body realloc stack (Some state))
  allocates_lazily = record {
    at_zero = λ e s h. (
      once_rest stack state,
      enter_once e realloc stack state s h,
      λ answer t stack_there state_there. (
        resume_there stack state answer t stack_there state_there e,
        is_allocated stack state answer t stack_there state_there distinct,
      ),
    );
    at_other = λ e n x h other. (enter_again e realloc stack state n x.store h (ne_eqb n 0 other), changes_nothing e realloc stack state n x h other);
    in_runs = allocates_once;
  }

pub is_stack_code : (realloc stack : ℕ) (state : Option ℕ) → IsStackCode realloc stack state (stack_body realloc stack state)
is_stack_code realloc stack None = allocates_stack realloc stack
is_stack_code realloc stack (Some state) = allocates_lazily realloc stack state
