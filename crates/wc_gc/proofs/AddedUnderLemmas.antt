-- Added bodies under new indices, and the indices that they name.
use Rattle.std.proofs.Common.{◌≡◌, ℕ, zero, suc, ◌+◌, ◌-◌, ◌<◌, ◌≤◌, ◌^◌, List, [], ◌∷◌, ◌++◌, length, refl, ◌∙◌, ap, Bool, true, false, cond, Option, Some, None, nat_eq, lit<, arith, ◌/◌, pos, if◌then◌else◌}
use Rattle.std.specs.Prelude.{IfSome, filter}
use Rattle.std.specs.Str.{IsAscii}
use Rattle.std.specs.List.{AllByRecursion, range_with_len, count_by, slice_get}
use Rattle.std.specs.Option.{option_map}
use Rattle.std.proofs.lemmas.List.Elements.{All-cons}
use Rattle.std.proofs.lemmas.List.Sums.{sum_by-cons}
use Rattle.std.proofs.lemmas.Str.{IsUtf8-from_ascii}
use Rattle.wc_read.specs.Bodies.{BodyValue}
use Rattle.wc_read.specs.Operators.{byte_form}
use Rattle.wc_read.specs.Nesting.{plain_run}
use Rattle.wc_read.specs.Renumbering.{Renumbering}
use Rattle.wc_read.specs.declared.types.ValType.TheVariants.{I32}
use Rattle.wc_read.specs.declared.nesting.Token.TheVariants.{Plain}
use Rattle.wc_read.specs.declared.operators.Space.TheVariants.{Funcs, Memories, Globals}
use Rattle.wc_read.specs.declared.operators.IndexKind.TheVariants.{In}
use Rattle.wc_read.specs.declared.operators.Form.TheVariants.{Index as form_index}
use Rattle.wc_write.specs.Values.{IsInstr, IsBody, IsName}
use Rattle.wc_gc.specs.AddedCode.{call, const, end, growing_body, growth, plain, stack_body, trap_unless}
use Rattle.wc_gc.specs.Counts.{count_below}
use Rattle.wc_gc.specs.Edit.{with_call}
use Rattle.wc_gc.specs.Found.{main_module}
use Rattle.wc_gc.specs.Image.{renumber_body, renumber_code}
use Rattle.wc_gc.specs.Laws.{KeepsBits}
use Rattle.wc_gc.specs.Parts.{first_of, last_of}
use Rattle.wc_gc.proofs.BuiltPartLemmas.{all_at}
use Rattle.wc_gc.proofs.SpellableLemmas.{body_stays}

-- bodies

-- by whether pages have one byte
abbrev pub growing_by : Bool → ℕ → ℕ → BodyValue
growing_by b page_size_log2 memory = record {
  locals = record { count = 1; ty = I32 } ∷ [];
  operators =
      trap_unless 0 0 ++ (trap_unless 1 0 ++ (trap_unless 3 65536
      ++ (growth (65536 / 2 ^ page_size_log2) memory ++ ((if b then [] else const (pos page_size_log2) ∷ plain 0x74 ∷ []) ++ (end ∷ [])))));
}

pub growing_under : (new : Renumbering) (page_size_log2 memory : ℕ) → renumber_body new (growing_body page_size_log2 memory) ≡ growing_body page_size_log2 (new Memories memory)
unfolding growing_body
growing_under new page_size_log2 memory = elim (nat_eq page_size_log2 0) as (λ b. renumber_body new (growing_by b page_size_log2 memory) ≡ growing_by b page_size_log2 (new Memories memory)) [ true ↦ refl | false ↦ refl ]

pub stack_under : (new : Renumbering) (realloc stack : ℕ) (state : Option ℕ) → renumber_body new (stack_body realloc stack state) ≡ stack_body (new Funcs realloc) (new Globals stack) (option_map (new Globals) state)
unfolding stack_body
stack_under new realloc stack None = refl
stack_under new realloc stack (Some state) = refl

call_is : (func : ℕ) → func < 2 ^ 32 → IsInstr (call func)
unfolding byte_form
call_is func fits = record { form = form_index (In Funcs); in_table = refl; has_form = (func, refl, fits) }

-- a body after a call
pub called_is_body : (new : Renumbering) → KeepsBits new → (func : ℕ) → new Funcs func < 2 ^ 32 → (b : BodyValue) → IsBody b → IsBody (renumber_body new (with_call func b))
called_is_body new keeps func fits b h =
    let stays = body_stays new keeps b h in
    record {
      locals_fit_u32 = stays.locals_fit_u32;
      has_locals = stays.has_locals;
      has_operators = All-cons IsInstr (call (new Funcs func)) (renumber_code new b.operators) (call_is (new Funcs func) fits) stays.has_operators;
      nests = (Plain ∷ stays.nests.0, ap (λ ts. Plain ∷ ts) stays.nests.1, plain_run stays.nests.2);
    }

-- the main module's name

are_ascii : (bytes : List ℕ) → AllByRecursion (λ (b : ℕ). b < 128) bytes → IsAscii bytes
are_ascii [] all i = lit< tt
are_ascii (b ∷ bytes) all zero = all.0
are_ascii (b ∷ bytes) all (suc i) = are_ascii bytes all.1 i

pub main_is_name : IsName main_module
main_is_name = record { is_text = IsUtf8-from_ascii main_module (are_ascii main_module (lit< tt, (lit< tt, (lit< tt, (lit< tt, (lit< tt, (lit< tt, (lit< tt, (lit< tt, (lit< tt, (lit< tt, (lit< tt, (lit< tt, (lit< tt, (lit< tt, (lit< tt, tt)))))))))))))))); short = lit< tt }

-- numbers of a range that pass a test

abbrev pub IsMember : (ℕ → Bool) → ℕ → ℕ → Type 0
IsMember test size n = (test n ≡ true) × (n < size)

member_more : (test : ℕ → Bool) (a size : ℕ) (ns : List ℕ) → a < size → AllByRecursion (IsMember test size) ns → (b : Bool) → test a ≡ b → AllByRecursion (IsMember test size) (cond b (a ∷ ns) ns)
member_more test a size ns h all true e = ((e, h), all)
member_more test a size ns h all false e = all

members_from : (test : ℕ → Bool) (a c size : ℕ) → a + c ≤ size → AllByRecursion (IsMember test size) (filter test (range_with_len a c))
members_from test a zero size h = tt
members_from test a (suc c) size h = member_more test a size (filter test (range_with_len (a + 1) c)) (omega arith) (members_from test (a + 1) c size (omega arith)) (test a) refl

pub members : (test : ℕ → Bool) (size : ℕ) → AllByRecursion (IsMember test size) (filter test (range_with_len 0 size))
members test size = members_from test 0 size size (omega arith)

pub first_has : {A : Type 0} (P : A → Type 0) (xs : List A) → AllByRecursion P xs → IfSome (first_of xs) P
first_has P [] all = tt
first_has P (x ∷ xs) all = all.0

pub last_has : {A : Type 0} (P : A → Type 0) (xs : List A) → AllByRecursion P xs → IfSome (last_of xs) P
last_has {A} P xs all = by (last_of xs) refl
  where
    by : (o : Option A) → last_of xs ≡ o → IfSome o P
    by None e = tt
    by (Some x) e = all_at P xs (length xs - 1) x all e

abbrev one_for : Bool → ℕ
one_for b = cond b 1 0

-- the first of them has none before it
first_counts : (p : ℕ → Bool) (a c n : ℕ) → slice_get (filter p (range_with_len a c)) 0 ≡ Some n → (a ≤ n) × (count_by p (range_with_len a (n - a)) ≡ 0)
first_counts p a zero n e = absurd cc
first_counts p a (suc c) n e = by (p a) refl e (first_counts p (a + 1) c n)
  where
    by : (b : Bool) → p a ≡ b → slice_get (cond b (a ∷ filter p (range_with_len (a + 1) c)) (filter p (range_with_len (a + 1) c))) 0 ≡ Some n
        → (slice_get (filter p (range_with_len (a + 1) c)) 0 ≡ Some n → (a + 1 ≤ n) × (count_by p (range_with_len (a + 1) (n - (a + 1))) ≡ 0)) → (a ≤ n) × (count_by p (range_with_len a (n - a)) ≡ 0)
    by true h at rest =
        let same : a ≡ n = cc at in
        let none : n - a ≡ 0 = omega (arith, same) in
        (omega (arith, same), ap (λ k. count_by p (range_with_len a k)) none)
    by false h at rest =
        let r = rest at in
        let r0 = r.0 in
        let some : n - a ≡ suc (n - (a + 1)) = omega (arith, r0) in
        let head = sum_by-cons (λ (k : ℕ). cond (p k) 1 0) a (range_with_len (a + 1) (n - (a + 1))) in
        let zero_head : one_for (p a) ≡ 0 = ap one_for h in
        (omega (arith, r0), ap (λ k. count_by p (range_with_len a k)) some ∙ omega (arith, head, zero_head, r.1))

pub first_rank : (p : ℕ → Bool) (size n : ℕ) → first_of (filter p (range_with_len 0 size)) ≡ Some n → count_below p n ≡ 0
first_rank p size n e = ap (count_below p) (let z : n ≡ n - 0 = omega arith in z) ∙ (first_counts p 0 size n e).1
