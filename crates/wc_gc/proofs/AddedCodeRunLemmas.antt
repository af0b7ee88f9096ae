-- The code that is added, run on the small machine.
use Rattle.std.proofs.Common.{◌≡◌, ◌≢◌, ℕ, ◌+◌, ◌-◌, ◌*◌, ◌/◌, ◌%◌, ◌^◌, ◌<◌, ◌≤◌, List, [], ◌∷◌, ◌++◌, true, false, nat_eq, sym, ◌∙◌, ap, refl, subst, arith}
use Rattle.std.proofs.Common.{inl, inr, pos, Some, None, get_or}
use Rattle.std.proofs.Math.Nat.{mod-eq_of_lt, mul-div_cancel, mul-one, le-mul_of_pos_right}
use Rattle.std.proofs.lemmas.Nat.{pow_pos, pow-add}
use Rattle.std.proofs.lemmas.Bool.{leb-true, ne_eqb, and_parts}
use Rattle.std.proofs.lemmas.Bool.Decides.{eqb_tells}
use Rattle.wc_read.specs.Operators.{InstrValue}
use Rattle.wc_gc.specs.AddedCode.{const, plain, set_global, end, shifted, growing_body, stack_body}
use Rattle.wc_gc.specs.Machine.{Store, with_global, is_granted, can_grow, grown_store, OpenCall, finished, trapped, called, step, code_outcome, call_outcome}
use Rattle.wc_gc.specs.Machine.{answer_outcome}
use Rattle.wc_gc.proofs.MachineLemmas.{global_at, global_set, global_kept, there_stays}
use Rattle.wc_gc.specs.MachineLaws.{IsGrowingRealloc, stack_request, block_end, IsGlobal, IsThere, IsAllocated, allocated_store, AllocatesStack}

-- numbers

-- the pages of a stack have its bytes
pages_bytes : (e : ℕ) → e ≤ 16 → 65536 / 2 ^ e * 2 ^ e ≡ 65536
pages_bytes e h =
    let split : 65536 ≡ 2 ^ (16 - e) * 2 ^ e = ap (λ k. 2 ^ k) (let sum : 16 ≡ 16 - e + e = omega arith in sum) ∙ pow-add 2 (16 - e) e in
    let quotient : 65536 / 2 ^ e ≡ 2 ^ (16 - e) = ap (λ n. n / 2 ^ e) split ∙ mul-div_cancel (2 ^ (16 - e)) (pow_pos e) in
    ap (λ n. n * 2 ^ e) quotient ∙ sym split

module _ (e : ℕ) (small : e ≤ 16) (s : Store) (h : can_grow e s (65536 / 2 ^ e) ≡ true) where
  -- the old size in bytes
  old_bytes : s.pages * 2 ^ e + 65536 ≤ 2 ^ 32
  old_bytes =
      let fits = leb-true ((s.pages + 65536 / 2 ^ e) * 2 ^ e) (2 ^ 32) (and_parts (is_granted s.growths) _ h).1 in
      omega (arith, pages_bytes e small)

  old_pages : s.pages + 65536 ≤ 2 ^ 32
  old_pages = omega (arith, old_bytes, le-mul_of_pos_right s.pages (pow_pos e))

-- runs

-- a page index becomes that of its byte
shift_runs : (e : ℕ) → e ≤ 16 → (locals : List ℕ) (x : ℕ) (s : Store) → x * 2 ^ e < 2 ^ 32
    → code_outcome e (shifted e ++ (end ∷ [])) 0 (record { locals = locals; operands = x ∷ [] }) s ≡ finished s (x * 2 ^ e ∷ [])
unfolding code_outcome step
shift_runs e small locals x s fits =
    let word : e % 2 ^ 32 ≡ e = mod-eq_of_lt (let h : e < 2 ^ 32 = omega arith in h) in
    let count : e % 32 ≡ e = mod-eq_of_lt (let h : e < 32 = omega arith in h) in
    elim (eqb_tells e 0) [
      | inl t ↦ rw t.0 (ap (λ n. finished s (n ∷ [])) (sym (ap (λ k. x * 2 ^ k) t.1 ∙ mul-one x)))
      | inr t ↦ rw (t.0, word, count, mod-eq_of_lt fits) refl
    ]

module _ (e : ℕ) (s : Store) (align : ℕ) where
  other_pointer : (p l n : ℕ) → nat_eq 0 p ≡ false → call_outcome e (growing_body e 0) (p ∷ l ∷ align ∷ n ∷ []) s ≡ trapped
  unfolding growing_body call_outcome code_outcome step
  other_pointer p l n h = rw h refl

  other_old_length : (l n : ℕ) → nat_eq 0 l ≡ false → call_outcome e (growing_body e 0) (0 ∷ l ∷ align ∷ n ∷ []) s ≡ trapped
  unfolding growing_body call_outcome code_outcome step
  other_old_length l n h = rw h refl

  other_new_length : (n : ℕ) → nat_eq 65536 n ≡ false → call_outcome e (growing_body e 0) (0 ∷ 0 ∷ align ∷ n ∷ []) s ≡ trapped
  unfolding growing_body call_outcome code_outcome step
  other_new_length n h = rw h refl

  module _ (pages : (65536 / 2 ^ e) % 2 ^ 32 ≡ 65536 / 2 ^ e) where
    refused_runs : can_grow e s (65536 / 2 ^ e) ≡ false → call_outcome e (growing_body e 0) (0 ∷ 0 ∷ align ∷ 65536 ∷ []) s ≡ trapped
    unfolding growing_body call_outcome code_outcome step
    refused_runs h = rw (pages, h) refl

    granted_runs : can_grow e s (65536 / 2 ^ e) ≡ true → s.pages % 2 ^ 32 ≡ s.pages → nat_eq s.pages 4294967295 ≡ false
        → call_outcome e (growing_body e 0) (0 ∷ 0 ∷ align ∷ 65536 ∷ []) s ≡ code_outcome e (shifted e ++ (end ∷ [])) 0
        (record { locals = 0 ∷ 0 ∷ align ∷ 65536 ∷ s.pages ∷ []; operands = s.pages ∷ [] }) (grown_store s (65536 / 2 ^ e))
    unfolding growing_body call_outcome code_outcome step
    granted_runs h old other = rw (pages, h, old, other) refl

others_trap : (e : ℕ) → e ≤ 16 → (s : Store) (p l align n : ℕ) → ¬ ((p ≡ 0) × (l ≡ 0) × (n ≡ 65536))
    → call_outcome e (growing_body e 0) (p ∷ l ∷ align ∷ n ∷ []) s ≡ trapped
others_trap e small s p l align n other = elim (eqb_tells 0 p) [
  | inr t ↦ other_pointer e s align p l n t.0
  | inl t ↦ elim (eqb_tells 0 l) [
    | inr u ↦ subst (λ x. call_outcome e (growing_body e 0) (x ∷ l ∷ align ∷ n ∷ []) s ≡ trapped) t.1 (other_old_length e s align l n u.0)
    | inl u ↦ subst (λ x. call_outcome e (growing_body e 0) (x ∷ l ∷ align ∷ n ∷ []) s ≡ trapped) t.1
        (subst (λ x. call_outcome e (growing_body e 0) (0 ∷ x ∷ align ∷ n ∷ []) s ≡ trapped) u.1
        (other_new_length e s align n (ne_eqb 65536 n (λ same. other (sym t.1, sym u.1, sym same)))))
  ]
]

small_pages : (e : ℕ) → e ≤ 16 → (65536 / 2 ^ e) % 2 ^ 32 ≡ 65536 / 2 ^ e
small_pages e small = mod-eq_of_lt (let h : 65536 / 2 ^ e < 2 ^ 32 = omega (arith, le-mul_of_pos_right (65536 / 2 ^ e) (pow_pos e), pages_bytes e small) in h)

grants_a_stack : (e : ℕ) → e ≤ 16 → (s : Store) (align : ℕ) → can_grow e s (65536 / 2 ^ e) ≡ true
    → call_outcome e (growing_body e 0) (0 ∷ 0 ∷ align ∷ 65536 ∷ []) s ≡ finished (grown_store s (65536 / 2 ^ e)) (s.pages * 2 ^ e ∷ [])
grants_a_stack e small s align h =
    let pages = old_pages e small s h in
    let bytes = old_bytes e small s h in
    let kept : s.pages % 2 ^ 32 ≡ s.pages = mod-eq_of_lt (let bounded : s.pages < 2 ^ 32 = omega arith in bounded) in
    let other : nat_eq s.pages 4294967295 ≡ false = ne_eqb s.pages 4294967295 (λ same. omega arith) in
    granted_runs e s align (small_pages e small) h kept other
    ∙ shift_runs e small (0 ∷ 0 ∷ align ∷ 65536 ∷ s.pages ∷ []) s.pages (grown_store s (65536 / 2 ^ e)) (omega arith)

pub is_growing_realloc : (e : ℕ) → e ≤ 16 → IsGrowingRealloc e (growing_body e 0)
is_growing_realloc e small = record {
  others_trap = λ s p l align n other. others_trap e small s p l align n other;
  grows = λ s align h. grants_a_stack e small s align h;
  refused_trap = λ s align h. refused_runs e s align (small_pages e small) h;
}

-- the allocation of a stack

-- what is left after the call of the realloc
abbrev pub rest_of : List InstrValue → ℕ → OpenCall
rest_of code stack = record {
  frame = record { locals = []; operands = [] };
  code = const (pos 65536) ∷ plain 0x6a ∷ set_global stack ∷ code;
}

abbrev pub once_rest : ℕ → ℕ → OpenCall
once_rest stack state = rest_of (const (pos 2) ∷ set_global state ∷ end ∷ end ∷ []) stack

enter_stack : (e realloc stack : ℕ) (s : Store) → call_outcome e (stack_body realloc stack None) [] s ≡ called s realloc (stack_request 8)
    (rest_of (end ∷ []) stack)
unfolding stack_body call_outcome code_outcome step
enter_stack e realloc stack s = refl

resume_stack : (e stack answer old : ℕ) (t : Store) → IsGlobal t stack old → answer_outcome e (rest_of (end ∷ []) stack) answer t
    ≡ finished (with_global t stack (block_end answer)) []
unfolding answer_outcome code_outcome step
resume_stack e stack answer old t h = rw h refl

pub enter_once : (e realloc stack state : ℕ) (s : Store) → IsGlobal s state 0 → call_outcome e (stack_body realloc stack (Some state)) [] s
    ≡ called (with_global s state 1) realloc (stack_request 8) (once_rest stack state)
unfolding stack_body call_outcome code_outcome step
enter_once e realloc stack state s h = rw (h, h) refl

pub enter_again : (e realloc stack state n : ℕ) (s : Store) → IsGlobal s state n → nat_eq n 0 ≡ false
    → call_outcome e (stack_body realloc stack (Some state)) [] s ≡ finished s []
unfolding stack_body call_outcome code_outcome step
enter_again e realloc stack state n s h other = rw (h, other) refl

pub resume_once : (e stack state answer old then : ℕ) (t : Store) → IsGlobal t stack old → IsGlobal (with_global t stack (block_end answer)) state then
    → answer_outcome e (once_rest stack state) answer t ≡ finished (with_global (with_global t stack (block_end answer)) state 2) []
unfolding answer_outcome code_outcome step
resume_once e stack state answer old then t h g = rw (h, g) refl

pub allocates_stack : (realloc stack : ℕ) → AllocatesStack realloc stack (stack_body realloc stack None)
allocates_stack realloc stack e s = (
  rest_of (end ∷ []) stack,
  enter_stack e realloc stack s,
  λ answer t there. resume_stack e stack answer (get_or t.globals stack 0) t (global_at t stack there),
)

module _ (stack state answer : ℕ) (t : Store) (stack_there : IsThere t stack) (state_there : IsThere t state) where
  pub resume_there : (e : ℕ) → answer_outcome e (once_rest stack state) answer t ≡ finished (allocated_store stack state t answer) []
  resume_there e =
      let u = with_global t stack (block_end answer) in
      let there = there_stays t stack (block_end answer) state state_there in
      resume_once e stack state answer (get_or t.globals stack 0) (get_or u.globals state 0) t (global_at t stack stack_there) (global_at u state there)

  pub is_allocated : stack ≢ state → IsAllocated (allocated_store stack state t answer) stack state answer
  is_allocated distinct =
      let u = with_global t stack (block_end answer) in
      record {
        state_is_two = global_set u state 2 (there_stays t stack (block_end answer) state state_there);
        stack_is_end = global_kept u state 2 stack (block_end answer) distinct (global_set t stack (block_end answer) stack_there);
      }
