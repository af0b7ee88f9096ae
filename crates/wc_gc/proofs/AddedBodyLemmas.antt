-- The bodies that are added can be spelled, and their texts are short.
use Rattle.std.proofs.Common.{◌≡◌, ℕ, zero, suc, ◌+◌, ◌*◌, ◌/◌, ◌%◌, ◌^◌, ◌<◌, ◌≤◌, List, [], ◌∷◌, ◌++◌, length, Bool, true, false, nat_eq, nat_lt, refl, arith, Option, Some, None, pos, negsuc, if◌then◌else◌, lit<, lit≤}
use Rattle.std.specs.Prelude.{All, IfSome}
use Rattle.std.specs.List.{flat_map, AllByRecursion as ByRecursion}
use Rattle.std.proofs.Math.Nat.{div-le_self}
use Rattle.std.proofs.lemmas.List.{length-append}
use Rattle.std.proofs.lemmas.List.Elements.{All-append, All-weaker, All-head, All-nil, All-tail, All-from_recursion}
use Rattle.wc_read.specs.Operators.{WithBlock, WithIndex, InstrValue, index_of, byte_form}
use Rattle.wc_read.specs.Nesting.{tokens, IsRun, empty_run, plain_run, if_run, IsExpression}
use Rattle.wc_read.specs.declared.bodies.Locals.{Locals}
use Rattle.wc_read.specs.declared.nesting.Token.{Token}
use Rattle.wc_read.specs.declared.nesting.Token.TheVariants.{Plain, If, End}
use Rattle.wc_read.specs.declared.operators.Space.TheVariants.{Funcs, Memories, Globals}
use Rattle.wc_read.specs.declared.operators.IndexKind.{IndexKind}
use Rattle.wc_read.specs.declared.operators.IndexKind.TheVariants.{In, Local}
use Rattle.wc_read.specs.declared.operators.BlockType.TheVariants.{Empty}
use Rattle.wc_read.specs.declared.operators.Form.TheVariants.{None as form_none, Block as form_block, Index as form_index, I32 as form_i32}
use Rattle.wc_write.specs.Text.{digits, signed_digits, signed_digit, vector_text, FitsSize}
use Rattle.wc_write.specs.Operators.{immediates_text, instr_text}
use Rattle.wc_write.specs.Bodies.{locals_text, body_text}
use Rattle.wc_write.specs.Values.{IsU32, IsInstr, IsBody, IsValType}
use Rattle.wc_gc.specs.AddedCode.{with, plain, const, get_global, set_global, end, trap_if, trap_unless, growth, shifted, growing_body, allocation, stack_code, stack_body}

-- lengths

digits_bounded : (left n : ℕ) → length (digits left n) ≤ suc left
unfolding digits
digits_bounded zero n = lit≤ tt
digits_bounded (suc left) n = elim (nat_lt n 128) as (λ b. length (if b then n ∷ [] else (128 + n % 128) ∷ digits left (n / 128)) ≤ suc (suc left)) [
  | true ↦ omega arith
  | false ↦ omega (arith, digits_bounded left (n / 128))
]

signed_bounded : (negative : Bool) (left n : ℕ) → length (signed_digits negative left n) ≤ suc left
unfolding signed_digits
signed_bounded negative zero n = lit≤ tt
signed_bounded negative (suc left) n = elim (nat_lt n 64) as (λ b. length (if b then signed_digit negative n ∷ [] else (128 + signed_digit negative (n % 128)) ∷ signed_digits negative left (n / 128)) ≤ suc (suc left)) [
  | true ↦ omega arith
  | false ↦ omega (arith, signed_bounded negative left (n / 128))
]

-- operators

-- an operator that can be spelled, in few bytes
record IsFine (i : InstrValue) : Type 0 where
  can_be_spelled : IsInstr i
  bounded : length (instr_text i) ≤ 11

plain_is : (code : ℕ) → byte_form code ≡ Some form_none → IsFine (plain code)
unfolding instr_text immediates_text
plain_is code h = record { can_be_spelled = record { form = form_none; in_table = h; has_form = refl }; bounded = lit≤ tt }

if_is : IsFine (with 0x04 (WithBlock Empty))
unfolding byte_form instr_text immediates_text
if_is = record { can_be_spelled = record { form = form_block; in_table = refl; has_form = (Empty, refl, tt) }; bounded = lit≤ tt }

index_is : (code : ℕ) (kind : IndexKind) (n : ℕ) → byte_form code ≡ Some (form_index kind) → IsU32 n → IsFine (with code (WithIndex (index_of kind n)))
unfolding instr_text immediates_text
index_is code kind n h fits = record {
  can_be_spelled = record { form = form_index kind; in_table = h; has_form = (n, refl, fits) };
  bounded = omega (arith, digits_bounded 9 n);
}

const_is : (n : ℕ) → n < 2 ^ 31 → IsFine (const (pos n))
unfolding byte_form instr_text immediates_text
const_is n fits = record {
  can_be_spelled = record { form = form_i32; in_table = refl; has_form = (pos n, refl, fits) };
  bounded = omega (arith, signed_bounded false 9 n);
}

minus_one_is : IsFine (const (negsuc 0))
unfolding byte_form instr_text immediates_text
minus_one_is = record {
  can_be_spelled = record { form = form_i32; in_table = refl; has_form = (negsuc 0, refl, lit< tt) };
  bounded = omega (arith, signed_bounded true 9 0);
}

end_is : IsFine end
unfolding byte_form
end_is = plain_is 0x0b refl

fine : (is : List InstrValue) → ByRecursion IsFine is → All IsFine is
fine is h = All-from_recursion IsFine is h

trap_is : ByRecursion IsFine trap_if
unfolding byte_form
trap_is = (if_is, (plain_is 0x00 refl, (end_is, tt)))

trap_unless_is : (local n : ℕ) → local < 2 ^ 32 → n < 2 ^ 31 → All IsFine (trap_unless local n)
unfolding byte_form
trap_unless_is local n bounded fits = fine (trap_unless local n) (const_is n fits, (index_is 0x20 Local local refl bounded, (plain_is 0x47 refl, trap_is)))

growth_is : (pages memory : ℕ) → pages < 2 ^ 31 → memory < 2 ^ 32 → All IsFine (growth pages memory)
unfolding byte_form
growth_is pages memory fits bounded = fine (growth pages memory) (const_is pages fits, (index_is 0x40 (In Memories) memory refl bounded, (index_is 0x22 Local 4 refl (lit< tt), (minus_one_is, (plain_is 0x46 refl, (if_is, (plain_is 0x00 refl, (end_is, (index_is 0x20 Local 4 refl (lit< tt), tt)))))))))

shifted_is : (e : ℕ) → e ≤ 16 → All IsFine (shifted e)
unfolding byte_form
shifted_is e small = fine (shifted e) (elim (nat_eq e 0) as (λ b. ByRecursion IsFine (if b then [] else const (pos e) ∷ plain 0x74 ∷ [])) [
  | true ↦ tt
  | false ↦ (const_is e (omega arith), (plain_is 0x74 refl, tt))
])

allocation_is : (realloc stack : ℕ) → realloc < 2 ^ 32 → stack < 2 ^ 32 → All IsFine (allocation realloc stack)
unfolding byte_form
allocation_is realloc stack bounded_realloc bounded_stack = fine (allocation realloc stack) (
  const_is 0 (lit< tt),
  (const_is 0 (lit< tt), (const_is 8 (lit< tt), (const_is 65536 (lit< tt), (index_is 0x10 (In Funcs) realloc refl bounded_realloc, (const_is 65536 (lit< tt), (plain_is 0x6a refl, (index_is 0x24 (In Globals) stack refl bounded_stack, tt))))))),
)

stack_is : (realloc stack : ℕ) (state : Option ℕ) → realloc < 2 ^ 32 → stack < 2 ^ 32 → IfSome state IsU32 → All IsFine (stack_code realloc stack state)
unfolding byte_form
stack_is realloc stack None bounded_realloc bounded_stack bounded_state = allocation_is realloc stack bounded_realloc bounded_stack
stack_is realloc stack (Some state) bounded_realloc bounded_stack bounded_state =
    let before = get_global state ∷ const (pos 0) ∷ plain 0x46 ∷ with 0x04 (WithBlock Empty) ∷ const (pos 1) ∷ set_global state ∷ [] in
    let after = const (pos 2) ∷ set_global state ∷ end ∷ [] in
    let set = index_is 0x24 (In Globals) state refl bounded_state in
    All-append IsFine before (allocation realloc stack ++ after)
    (fine before (
      index_is 0x23 (In Globals) state refl bounded_state,
      (const_is 0 (lit< tt), (plain_is 0x46 refl, (if_is, (const_is 1 (lit< tt), (set, tt))))),
    ))
    (All-append IsFine (allocation realloc stack) after (allocation_is realloc stack bounded_realloc bounded_stack)
    (fine after (const_is 2 (lit< tt), (set, (end_is, tt)))))

-- code

code_bounded : (is : List InstrValue) → All IsFine is → length (flat_map instr_text is) ≤ 11 * length is
code_bounded [] all = lit≤ tt
code_bounded (i ∷ is) all =
    let first = (All-head IsFine i is all).bounded in
    let rest = code_bounded is (All-tail IsFine i is all) in
    omega (arith, length-append (instr_text i) (flat_map instr_text is))

can_be : (is : List InstrValue) → All IsFine is → All IsInstr is
can_be is all = All-weaker IsFine IsInstr (λ i h. h.can_be_spelled) is all

pages_fit : (e : ℕ) → 65536 / 2 ^ e < 2 ^ 31
pages_fit e = omega (arith, div-le_self 65536 (2 ^ e))

growing_fine : (e : ℕ) → e ≤ 16 → All IsFine (growing_body e 0).operators
unfolding growing_body
growing_fine e small =
    let pages = 65536 / 2 ^ e in
    let fourth = growth pages 0 ++ (shifted e ++ (end ∷ [])) in
    let third = trap_unless 3 65536 ++ fourth in
    let second = trap_unless 1 0 ++ third in
    All-append IsFine (trap_unless 0 0) second (trap_unless_is 0 0 (lit< tt) (lit< tt))
    (All-append IsFine (trap_unless 1 0) third (trap_unless_is 1 0 (lit< tt) (lit< tt))
    (All-append IsFine (trap_unless 3 65536) fourth (trap_unless_is 3 65536 (lit< tt) (lit< tt))
    (All-append IsFine (growth pages 0) (shifted e ++ (end ∷ [])) (growth_is pages 0 (pages_fit e) (lit< tt))
    (All-append IsFine (shifted e) (end ∷ []) (shifted_is e small) (fine (end ∷ []) (end_is, tt))))))

growing_count : (e : ℕ) → length (growing_body e 0).operators ≤ 30
unfolding growing_body
growing_count e = elim (nat_eq e 0) as (λ b. length (trap_unless 0 0 ++ (trap_unless 1 0 ++ (trap_unless 3 65536 ++ (growth (65536 / 2 ^ e) 0 ++ ((if b then [] else const (pos e) ∷ plain 0x74 ∷ []) ++ (end ∷ [])))))) ≤ 30) [
  | true ↦ lit≤ tt
  | false ↦ lit≤ tt
]

-- an `if` that holds one operator, and a run
trap_run : {run : List Token} → IsRun run → IsRun (Plain ∷ Plain ∷ Plain ∷ If ∷ Plain ∷ End ∷ run)
trap_run {run} r = plain_run (plain_run (plain_run (if_run {inner = Plain ∷ []} {run = run} (plain_run empty_run) r)))

growing_nests : (e : ℕ) → IsExpression (tokens (growing_body e 0).operators)
unfolding growing_body
growing_nests e = elim (nat_eq e 0) as (λ b. IsExpression (tokens (trap_unless 0 0 ++ (trap_unless 1 0 ++ (trap_unless 3 65536 ++ (growth (65536 / 2 ^ e) 0 ++ ((if b then [] else const (pos e) ∷ plain 0x74 ∷ []) ++ (end ∷ [])))))))) [
  | true ↦ (_, refl, trap_run (trap_run (trap_run (plain_run (plain_run (trap_run (plain_run empty_run)))))))
  | false ↦ (_, refl, trap_run (trap_run (trap_run (plain_run (plain_run (trap_run (plain_run (plain_run (plain_run empty_run)))))))))
]

pub growing_is_body : (e : ℕ) → e ≤ 16 → IsBody (growing_body e 0) × FitsSize (body_text (growing_body e 0))
unfolding growing_body body_text digits
growing_is_body e small = (
  record {
    locals_fit_u32 = lit< tt;
    has_locals = All-from_recursion (λ (l : Locals). IsValType l.ty) (growing_body e 0).locals (tt, tt);
    has_operators = can_be (growing_body e 0).operators (growing_fine e small);
    nests = growing_nests e;
  },
  omega (arith, code_bounded (growing_body e 0).operators (growing_fine e small), growing_count e, length-append (vector_text locals_text (growing_body e 0).locals) (flat_map instr_text (growing_body e 0).operators)),
)

stack_nests : (realloc stack : ℕ) (state : Option ℕ) → IsExpression (tokens (stack_body realloc stack state).operators)
unfolding stack_body
stack_nests realloc stack None = (_, refl, plain_run (plain_run (plain_run (plain_run (plain_run (plain_run (plain_run (plain_run empty_run))))))))
stack_nests realloc stack (Some state) =
    let plains = Plain ∷ Plain ∷ Plain ∷ Plain ∷ Plain ∷ Plain ∷ Plain ∷ Plain ∷ Plain ∷ Plain ∷ Plain ∷ Plain ∷ [] in
    let inner : IsRun plains = plain_run (plain_run (plain_run (plain_run (plain_run (plain_run (plain_run (plain_run (plain_run (plain_run (plain_run (plain_run empty_run))))))))))) in
    (_, refl, plain_run (plain_run (plain_run (if_run {inner = plains} {run = []} inner empty_run))))

stack_count : (realloc stack : ℕ) (state : Option ℕ) → length (stack_code realloc stack state ++ (end ∷ [])) ≤ 20
stack_count realloc stack None = lit≤ tt
stack_count realloc stack (Some state) = lit≤ tt

pub stack_is_body : (realloc stack : ℕ) (state : Option ℕ) → realloc < 2 ^ 32 → stack < 2 ^ 32 → IfSome state IsU32 → IsBody (stack_body realloc stack state) × FitsSize (body_text (stack_body realloc stack state))
unfolding stack_body body_text digits
stack_is_body realloc stack state bounded_realloc bounded_stack bounded_state =
    let code = stack_code realloc stack state ++ (end ∷ []) in
    let all = All-append IsFine (stack_code realloc stack state) (end ∷ []) (stack_is realloc stack state bounded_realloc bounded_stack bounded_state) (fine (end ∷ []) (end_is, tt)) in (
      record {
        locals_fit_u32 = lit< tt;
        has_locals = All-nil
            (λ (l : Locals). IsValType l.ty);
        has_operators = can_be code all;
        nests = stack_nests realloc stack state;
      },
      omega (arith, code_bounded code all, stack_count realloc stack state, length-append (vector_text locals_text []) (flat_map instr_text code)),
    )
