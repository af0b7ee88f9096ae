-- A name is of one built-in at most.
use Rattle.std.proofs.Common.{◌≡◌, ℕ, true, false, arith, length, List, [], ◌∷◌, ◌++◌, Some, inl, inr, refl, sym, ap, ◌∙◌, subst, codes}
use Rattle.std.specs.Prelude.{slice_get, slice_index}
use Rattle.std.proofs.lemmas.List.{append_cancel_left, append_cancel_right}
use Rattle.wc_read.specs.declared.types.ValType.{ValType}
use Rattle.wc_read.specs.declared.types.ValType.TheVariants.{I32, I64, F32, F64, V128, FuncRef, ExternRef, FuncRefNonNull, ExternRefNonNull, TypeRef}
use Rattle.wc_adapters.specs.declared.encoding.StringEncoding.{StringEncoding}
use Rattle.wc_adapters.specs.declared.encoding.StringEncoding.TheVariants.{UTF8, UTF16, CompactUTF16}
use Rattle.wc_names.specs.Builtins.{NamesBuiltin, encoding_text, legacy_row, pointer_suffixes, slot_prefixes}
use Rattle.wc_names.specs.Mangling.{Scheme, standard, legacy}
use Rattle.wc_names.specs.Texts.{IsChoice, IsOneOf, IsSlot, Spells, SpellsNumber}
use Rattle.wc_names.specs.Views.{Builtin, error_context_drop, backpressure_inc, backpressure_dec, waitable_set_new, waitable_set_wait, waitable_set_poll, waitable_set_drop, waitable_join, subtask_drop, subtask_cancel, error_context_new, error_context_debug_message, context_get, context_set, thread_index, thread_new_indirect, thread_resume_later, thread_suspend, thread_yield, thread_suspend_then_resume, thread_yield_then_resume, thread_suspend_then_promote, thread_yield_then_promote}
use Rattle.wc_names.proofs.NumberTextLemmas.{no_letter_first, number_unique}
use Rattle.wc_names.proofs.PrefixLemmas.{prefix_free_unique}
use Rattle.wc_names.proofs.TextLemmas.{slot_middle}

-- how all names of a built-in begin; no beginning is one of another
abbrev beginning : Builtin → List ℕ
beginning error_context_drop = codes "[error-context-drop]"
beginning backpressure_inc = codes "[backpressure-inc]"
beginning backpressure_dec = codes "[backpressure-dec]"
beginning waitable_set_new = codes "[waitable-set-new]"
beginning (waitable_set_wait t) = codes "[waitable-set-wait"
beginning (waitable_set_poll t) = codes "[waitable-set-poll"
beginning waitable_set_drop = codes "[waitable-set-drop]"
beginning waitable_join = codes "[waitable-join]"
beginning subtask_drop = codes "[subtask-drop]"
beginning (subtask_cancel true) = codes "[async-lower][subtask-cancel]"
beginning (subtask_cancel false) = codes "[subtask-cancel]"
beginning (error_context_new e) = codes "[error-context-new-"
beginning (error_context_debug_message e) = codes "[error-context-debug-message-"
beginning (context_get t n) = codes "[context-get-"
beginning (context_set t n) = codes "[context-set-"
beginning thread_index = codes "[thread-index]"
beginning thread_new_indirect = codes "[thread-new-indirect-v0]"
beginning thread_resume_later = codes "[thread-resume-later]"
beginning thread_suspend = codes "[thread-suspend]"
beginning thread_yield = codes "[thread-yield]"
beginning thread_suspend_then_resume = codes "[thread-suspend-then-resume]"
beginning thread_yield_then_resume = codes "[thread-yield-then-resume]"
beginning thread_suspend_then_promote = codes "[thread-suspend-then-promote]"
beginning thread_yield_then_promote = codes "[thread-yield-then-promote]"

-- the built-in without its parameters
abbrev number_of : Builtin → ℕ
number_of error_context_drop = 0
number_of backpressure_inc = 1
number_of backpressure_dec = 2
number_of waitable_set_new = 3
number_of (waitable_set_wait t) = 4
number_of (waitable_set_poll t) = 5
number_of waitable_set_drop = 6
number_of waitable_join = 7
number_of subtask_drop = 8
number_of (subtask_cancel true) = 9
number_of (subtask_cancel false) = 10
number_of (error_context_new e) = 11
number_of (error_context_debug_message e) = 12
number_of (context_get t n) = 13
number_of (context_set t n) = 14
number_of thread_index = 15
number_of thread_new_indirect = 16
number_of thread_resume_later = 17
number_of thread_suspend = 18
number_of thread_yield = 19
number_of thread_suspend_then_resume = 20
number_of thread_yield_then_resume = 21
number_of thread_suspend_then_promote = 22
number_of thread_yield_then_promote = 23

begins : (b : Builtin) (text : List ℕ) → Spells (legacy_row b).names text → (rest : List ℕ) × (text ≡ beginning b ++ rest)
begins error_context_drop text is = ([], is)
begins backpressure_inc text is = ([], is)
begins backpressure_dec text is = ([], is)
begins waitable_set_new text is = ([], is)
begins (waitable_set_wait t) text is = (is.0 ++ codes "]", is.2)
begins (waitable_set_poll t) text is = (is.0 ++ codes "]", is.2)
begins waitable_set_drop text is = ([], is)
begins waitable_join text is = ([], is)
begins subtask_drop text is = ([], is)
begins (subtask_cancel true) text is = ([], is)
begins (subtask_cancel false) text is = ([], is)
begins (error_context_new e) text is = (encoding_text e ++ codes "]", is)
begins (error_context_debug_message e) text is = (encoding_text e ++ codes "]", is)
begins (context_get t n) text is = (is.0 ++ (is.1 ++ codes "]"), is.4)
begins (context_set t n) text is = (is.0 ++ (is.1 ++ codes "]"), is.4)
begins thread_index text is = ([], is)
begins thread_new_indirect text is = ([], is)
begins thread_resume_later text is = ([], is)
begins thread_suspend text is = ([], is)
begins thread_yield text is = ([], is)
begins thread_suspend_then_resume text is = ([], is)
begins thread_yield_then_resume text is = ([], is)
begins thread_suspend_then_promote text is = ([], is)
begins thread_yield_then_promote text is = ([], is)

-- all beginnings, in the order of the numbers
abbrev beginnings : List (List ℕ)
beginnings =
    codes "[error-context-drop]"
    ∷ codes "[backpressure-inc]"
    ∷ codes "[backpressure-dec]"
    ∷ codes "[waitable-set-new]"
    ∷ codes "[waitable-set-wait"
    ∷ codes "[waitable-set-poll"
    ∷ codes "[waitable-set-drop]"
    ∷ codes "[waitable-join]"
    ∷ codes "[subtask-drop]"
    ∷ codes "[async-lower][subtask-cancel]"
    ∷ codes "[subtask-cancel]"
    ∷ codes "[error-context-new-"
    ∷ codes "[error-context-debug-message-"
    ∷ codes "[context-get-"
    ∷ codes "[context-set-"
    ∷ codes "[thread-index]"
    ∷ codes "[thread-new-indirect-v0]"
    ∷ codes "[thread-resume-later]"
    ∷ codes "[thread-suspend]"
    ∷ codes "[thread-yield]"
    ∷ codes "[thread-suspend-then-resume]"
    ∷ codes "[thread-yield-then-resume]"
    ∷ codes "[thread-suspend-then-promote]"
    ∷ codes "[thread-yield-then-promote]"
    ∷ []

is_listed : (b : Builtin) → slice_get beginnings (number_of b) ≡ Some (beginning b)
is_listed error_context_drop = refl
is_listed backpressure_inc = refl
is_listed backpressure_dec = refl
is_listed waitable_set_new = refl
is_listed (waitable_set_wait t) = refl
is_listed (waitable_set_poll t) = refl
is_listed waitable_set_drop = refl
is_listed waitable_join = refl
is_listed subtask_drop = refl
is_listed (subtask_cancel true) = refl
is_listed (subtask_cancel false) = refl
is_listed (error_context_new e) = refl
is_listed (error_context_debug_message e) = refl
is_listed (context_get t n) = refl
is_listed (context_set t n) = refl
is_listed thread_index = refl
is_listed thread_new_indirect = refl
is_listed thread_resume_later = refl
is_listed thread_suspend = refl
is_listed thread_yield = refl
is_listed thread_suspend_then_resume = refl
is_listed thread_yield_then_resume = refl
is_listed thread_suspend_then_promote = refl
is_listed thread_yield_then_promote = refl

-- built-ins of one name have one number
number_unique_of : (a b : Builtin) (text : List ℕ) → Spells (legacy_row a).names text → Spells (legacy_row b).names text → number_of a ≡ number_of b
number_unique_of a b text x y =
    let left = begins a text x in
    let right = begins b text y in
    prefix_free_unique beginnings (number_of a) (number_of b) (beginning a) (beginning b) left.0 right.0 refl (is_listed a) (is_listed b) (sym left.1 ∙ right.1)

-- the parameters of names
suffix_unique : (t u : ValType) (m : List ℕ) → IsOneOf (pointer_suffixes t) m → IsOneOf (pointer_suffixes u) m → t ≡ u
suffix_unique I32 I32 m x y = refl
suffix_unique I64 I64 m x y = refl
suffix_unique I32 I64 m (inl x) y = absurd (let e : 0 ≡ 4 = ap length (sym x ∙ y) in let bad : ⊥ = cc e in bad)
suffix_unique I32 I64 m (inr x) y = absurd (let e : 51 ≡ 54 = ap (λ (z : List ℕ). slice_index z 2) (sym x ∙ y) in omega (arith, e))
suffix_unique I64 I32 m x (inl y) = absurd (let e : 0 ≡ 4 = ap length (sym y ∙ x) in let bad : ⊥ = cc e in bad)
suffix_unique I64 I32 m x (inr y) = absurd (let e : 51 ≡ 54 = ap (λ (z : List ℕ). slice_index z 2) (sym y ∙ x) in omega (arith, e))
suffix_unique F32 u m x y = absurd x
suffix_unique I32 F32 m x y = absurd y
suffix_unique I64 F32 m x y = absurd y
suffix_unique F64 u m x y = absurd x
suffix_unique I32 F64 m x y = absurd y
suffix_unique I64 F64 m x y = absurd y
suffix_unique V128 u m x y = absurd x
suffix_unique I32 V128 m x y = absurd y
suffix_unique I64 V128 m x y = absurd y
suffix_unique FuncRef u m x y = absurd x
suffix_unique I32 FuncRef m x y = absurd y
suffix_unique I64 FuncRef m x y = absurd y
suffix_unique ExternRef u m x y = absurd x
suffix_unique I32 ExternRef m x y = absurd y
suffix_unique I64 ExternRef m x y = absurd y
suffix_unique FuncRefNonNull u m x y = absurd x
suffix_unique I32 FuncRefNonNull m x y = absurd y
suffix_unique I64 FuncRefNonNull m x y = absurd y
suffix_unique ExternRefNonNull u m x y = absurd x
suffix_unique I32 ExternRefNonNull m x y = absurd y
suffix_unique I64 ExternRefNonNull m x y = absurd y
suffix_unique (TypeRef nullable index) u m x y = absurd x
suffix_unique I32 (TypeRef nullable index) m x y = absurd y
suffix_unique I64 (TypeRef nullable index) m x y = absurd y

choice_unique : (first last name : List ℕ) (t u : ValType) → IsChoice first (pointer_suffixes t) last name → IsChoice first (pointer_suffixes u) last name
    → t ≡ u
choice_unique first last name t u x y =
    let same : x.0 ≡ y.0 = append_cancel_right x.0 y.0 last (append_cancel_left first (x.0 ++ last) (y.0 ++ last) (sym x.2 ∙ y.2)) in
    suffix_unique t u y.0 (subst (IsOneOf (pointer_suffixes t)) same x.1) y.1

-- a number of a type, by the text between
slot_middle_unique : (t u : ValType) (n m : ℕ) (p q x y : List ℕ) → IsOneOf (slot_prefixes t) p → IsOneOf (slot_prefixes u) q → SpellsNumber n x
    → SpellsNumber m y → p ++ x ≡ q ++ y → (t ≡ u) × (n ≡ m)
slot_middle_unique I32 I32 n m p q x y (inl a) (inl b) s r e = (
  refl,
  number_unique y n m (subst (SpellsNumber n)
      (append_cancel_left [] x y (sym (ap (λ (z : List ℕ). z ++ x) a) ∙ (e ∙ ap (λ (z : List ℕ). z ++ y) b))) s) r,
)
slot_middle_unique I32 I32 n m p q x y (inl a) (inr b) s r e =
    absurd (no_letter_first n x (codes "32-" ++ y) s (sym (ap (λ (z : List ℕ). z ++ x) a) ∙ (e ∙ ap (λ (z : List ℕ). z ++ y) b)))
slot_middle_unique I32 I32 n m p q x y (inr a) (inl b) s r e =
    absurd (no_letter_first m y (codes "32-" ++ x) r (sym (ap (λ (z : List ℕ). z ++ y) b) ∙ (sym e ∙ ap (λ (z : List ℕ). z ++ x) a)))
slot_middle_unique I32 I32 n m p q x y (inr a) (inr b) s r e = (
  refl,
  number_unique y n m (subst (SpellsNumber n)
      (append_cancel_left (codes "i32-") x y (sym (ap (λ (z : List ℕ). z ++ x) a) ∙ (e ∙ ap (λ (z : List ℕ). z ++ y) b))) s) r,
)
slot_middle_unique I64 I64 n m p q x y a b s r e = (
  refl,
  number_unique y n m (subst (SpellsNumber n)
      (append_cancel_left (codes "i64-") x y (sym (ap (λ (z : List ℕ). z ++ x) a) ∙ (e ∙ ap (λ (z : List ℕ). z ++ y) b))) s) r,
)
slot_middle_unique I32 I64 n m p q x y (inl a) b s r e =
    absurd (no_letter_first n x (codes "64-" ++ y) s (sym (ap (λ (z : List ℕ). z ++ x) a) ∙ (e ∙ ap (λ (z : List ℕ). z ++ y) b)))
slot_middle_unique I32 I64 n m p q x y (inr a) b s r e =
    absurd (let f : 51 ≡ 54 = ap (λ (z : List ℕ). slice_index z 1) (sym (ap (λ (z : List ℕ). z ++ x) a) ∙ (e ∙ ap (λ (z : List ℕ). z ++ y) b)) in omega
    (arith, f))
slot_middle_unique I64 I32 n m p q x y a (inl b) s r e =
    absurd (no_letter_first m y (codes "64-" ++ x) r (sym (ap (λ (z : List ℕ). z ++ y) b) ∙ (sym e ∙ ap (λ (z : List ℕ). z ++ x) a)))
slot_middle_unique I64 I32 n m p q x y a (inr b) s r e =
    absurd (let f : 54 ≡ 51 = ap (λ (z : List ℕ). slice_index z 1) (sym (ap (λ (z : List ℕ). z ++ x) a) ∙ (e ∙ ap (λ (z : List ℕ). z ++ y) b)) in omega
    (arith, f))
slot_middle_unique F32 u n m p q x y a b s r e = absurd a
slot_middle_unique I32 F32 n m p q x y a b s r e = absurd b
slot_middle_unique I64 F32 n m p q x y a b s r e = absurd b
slot_middle_unique F64 u n m p q x y a b s r e = absurd a
slot_middle_unique I32 F64 n m p q x y a b s r e = absurd b
slot_middle_unique I64 F64 n m p q x y a b s r e = absurd b
slot_middle_unique V128 u n m p q x y a b s r e = absurd a
slot_middle_unique I32 V128 n m p q x y a b s r e = absurd b
slot_middle_unique I64 V128 n m p q x y a b s r e = absurd b
slot_middle_unique FuncRef u n m p q x y a b s r e = absurd a
slot_middle_unique I32 FuncRef n m p q x y a b s r e = absurd b
slot_middle_unique I64 FuncRef n m p q x y a b s r e = absurd b
slot_middle_unique ExternRef u n m p q x y a b s r e = absurd a
slot_middle_unique I32 ExternRef n m p q x y a b s r e = absurd b
slot_middle_unique I64 ExternRef n m p q x y a b s r e = absurd b
slot_middle_unique FuncRefNonNull u n m p q x y a b s r e = absurd a
slot_middle_unique I32 FuncRefNonNull n m p q x y a b s r e = absurd b
slot_middle_unique I64 FuncRefNonNull n m p q x y a b s r e = absurd b
slot_middle_unique ExternRefNonNull u n m p q x y a b s r e = absurd a
slot_middle_unique I32 ExternRefNonNull n m p q x y a b s r e = absurd b
slot_middle_unique I64 ExternRefNonNull n m p q x y a b s r e = absurd b
slot_middle_unique (TypeRef nullable index) u n m p q x y a b s r e = absurd a
slot_middle_unique I32 (TypeRef nullable index) n m p q x y a b s r e = absurd b
slot_middle_unique I64 (TypeRef nullable index) n m p q x y a b s r e = absurd b

slot_unique : (first last name : List ℕ) (t u : ValType) (n m : ℕ) → IsSlot first (slot_prefixes t) n last name → IsSlot first (slot_prefixes u) m last name
    → (t ≡ u) × (n ≡ m)
slot_unique first last name t u n m x y =
    let same : x.0 ++ x.1 ≡ y.0 ++ y.1 =
    append_cancel_right (x.0 ++ x.1) (y.0 ++ y.1) last (append_cancel_left first ((x.0 ++ x.1) ++ last) ((y.0 ++ y.1) ++ last)
    (sym (slot_middle name first last t n x) ∙ slot_middle name first last u m y)) in
    slot_middle_unique t u n m x.0 y.0 x.1 y.1 x.2 y.2 x.3 y.3 same

encoding_unique : (e f : StringEncoding) → encoding_text e ≡ encoding_text f → e ≡ f
encoding_unique UTF8 UTF8 h = refl
encoding_unique UTF16 UTF16 h = refl
encoding_unique CompactUTF16 CompactUTF16 h = refl
encoding_unique UTF8 UTF16 h = absurd (let l : 4 ≡ 5 = ap length h in omega (arith, l))
encoding_unique UTF8 CompactUTF16 h = absurd (let l : 4 ≡ 12 = ap length h in omega (arith, l))
encoding_unique UTF16 UTF8 h = absurd (let l : 5 ≡ 4 = ap length h in omega (arith, l))
encoding_unique UTF16 CompactUTF16 h = absurd (let l : 5 ≡ 12 = ap length h in omega (arith, l))
encoding_unique CompactUTF16 UTF8 h = absurd (let l : 12 ≡ 4 = ap length h in omega (arith, l))
encoding_unique CompactUTF16 UTF16 h = absurd (let l : 12 ≡ 5 = ap length h in omega (arith, l))

encoded_unique : (first text : List ℕ) (e f : StringEncoding)
    → text ≡ first ++ (encoding_text e ++ codes "]") → text ≡ first ++ (encoding_text f ++ codes "]") → e ≡ f
encoded_unique first text e f x y =
    encoding_unique e f (append_cancel_right (encoding_text e) (encoding_text f) (codes "]") (append_cancel_left first (encoding_text e ++ codes "]")
    (encoding_text f ++ codes "]") (sym x ∙ y)))

-- a built-in with other types, numbers and encodings, and with those of a certain one
abbrev Parameters : Type 0
Parameters = ValType × ℕ × StringEncoding

abbrev with_parameters : Builtin → Parameters → Builtin
with_parameters (waitable_set_wait t) p = waitable_set_wait p.0
with_parameters (waitable_set_poll t) p = waitable_set_poll p.0
with_parameters (error_context_new e) p = error_context_new p.2
with_parameters (error_context_debug_message e) p = error_context_debug_message p.2
with_parameters (context_get t n) p = context_get p.0 p.1
with_parameters (context_set t n) p = context_set p.0 p.1
with_parameters b p = b

abbrev certain : Parameters
certain = (I32, 0, UTF8)

abbrev parameters : Builtin → Parameters
parameters (waitable_set_wait t) = (t, 0, UTF8)
parameters (waitable_set_poll t) = (t, 0, UTF8)
parameters (error_context_new e) = (I32, 0, e)
parameters (error_context_debug_message e) = (I32, 0, e)
parameters (context_get t n) = (t, n, UTF8)
parameters (context_set t n) = (t, n, UTF8)
parameters b = certain

put_together : (b : Builtin) → with_parameters (with_parameters b certain) (parameters b) ≡ b
put_together (waitable_set_wait t) = refl
put_together (waitable_set_poll t) = refl
put_together (error_context_new e) = refl
put_together (error_context_debug_message e) = refl
put_together (context_get t n) = refl
put_together (context_set t n) = refl
put_together b = refl

-- all built-ins, in the order of the numbers
abbrev builtins : List Builtin
builtins =
    error_context_drop
    ∷ backpressure_inc
    ∷ backpressure_dec
    ∷ waitable_set_new
    ∷ waitable_set_wait I32
    ∷ waitable_set_poll I32
    ∷ waitable_set_drop
    ∷ waitable_join
    ∷ subtask_drop
    ∷ subtask_cancel true
    ∷ subtask_cancel false
    ∷ error_context_new UTF8
    ∷ error_context_debug_message UTF8
    ∷ context_get I32 0
    ∷ context_set I32 0
    ∷ thread_index
    ∷ thread_new_indirect
    ∷ thread_resume_later
    ∷ thread_suspend
    ∷ thread_yield
    ∷ thread_suspend_then_resume
    ∷ thread_yield_then_resume
    ∷ thread_suspend_then_promote
    ∷ thread_yield_then_promote
    ∷ []

has_number : (b : Builtin) → slice_get builtins (number_of b) ≡ Some (with_parameters b certain)
has_number error_context_drop = refl
has_number backpressure_inc = refl
has_number backpressure_dec = refl
has_number waitable_set_new = refl
has_number (waitable_set_wait t) = refl
has_number (waitable_set_poll t) = refl
has_number waitable_set_drop = refl
has_number waitable_join = refl
has_number subtask_drop = refl
has_number (subtask_cancel true) = refl
has_number (subtask_cancel false) = refl
has_number (error_context_new e) = refl
has_number (error_context_debug_message e) = refl
has_number (context_get t n) = refl
has_number (context_set t n) = refl
has_number thread_index = refl
has_number thread_new_indirect = refl
has_number thread_resume_later = refl
has_number thread_suspend = refl
has_number thread_yield = refl
has_number thread_suspend_then_resume = refl
has_number thread_yield_then_resume = refl
has_number thread_suspend_then_promote = refl
has_number thread_yield_then_promote = refl

same_but_parameters : (a b : Builtin) → number_of a ≡ number_of b → with_parameters a certain ≡ with_parameters b certain
same_but_parameters a b same =
    let e : Some (with_parameters a certain) ≡ Some (with_parameters b certain) = sym (has_number a) ∙ (ap (slice_get builtins) same ∙ has_number b) in
    cc e

parameters_unique : (b : Builtin) (p q : Parameters) (text : List ℕ) → Spells (legacy_row (with_parameters b p)).names text
    → Spells (legacy_row (with_parameters b q)).names text → with_parameters b p ≡ with_parameters b q
parameters_unique (waitable_set_wait t) p q text x y = ap waitable_set_wait (choice_unique (codes "[waitable-set-wait") (codes "]") text p.0 q.0 x y)
parameters_unique (waitable_set_poll t) p q text x y = ap waitable_set_poll (choice_unique (codes "[waitable-set-poll") (codes "]") text p.0 q.0 x y)
parameters_unique (error_context_new e) p q text x y = ap error_context_new (encoded_unique (codes "[error-context-new-") text p.2 q.2 x y)
parameters_unique (error_context_debug_message e) p q text x y =
    ap error_context_debug_message (encoded_unique (codes "[error-context-debug-message-") text p.2 q.2 x y)
parameters_unique (context_get t n) p q text x y =
    let both = slot_unique (codes "[context-get-") (codes "]") text p.0 q.0 p.1 q.1 x y in
    ap (λ (z : ValType). context_get z p.1) both.0 ∙ ap (context_get q.0) both.1
parameters_unique (context_set t n) p q text x y =
    let both = slot_unique (codes "[context-set-") (codes "]") text p.0 q.0 p.1 q.1 x y in
    ap (λ (z : ValType). context_set z p.1) both.0 ∙ ap (context_set q.0) both.1
parameters_unique b p q text x y = refl

-- built-ins of one name are equal
Named : List ℕ → Builtin → Type 0
Named text b = Spells (legacy_row b).names text

same_builtin : (a b : Builtin) (text : List ℕ) → number_of a ≡ number_of b → Spells (legacy_row a).names text → Spells (legacy_row b).names text → a ≡ b
unfolding Named
same_builtin a b text same x y =
    let base = same_but_parameters a b same in
    let left : Named text (with_parameters (with_parameters b certain) (parameters a)) =
    subst (λ (z : Builtin). Named text (with_parameters z (parameters a))) base (subst (Named text) (sym (put_together a)) x) in
    let right : Named text (with_parameters (with_parameters b certain) (parameters b)) = subst (Named text) (sym (put_together b)) y in
    sym (put_together a) ∙ (ap (λ (z : Builtin). with_parameters z (parameters a)) base ∙
    (parameters_unique (with_parameters b certain) (parameters a) (parameters b) text left right ∙ put_together b))

-- a name is of one built-in
pub builtin_unique : (s : Scheme) (a b : Builtin) (text : List ℕ) → NamesBuiltin s a text → NamesBuiltin s b text → a ≡ b
builtin_unique standard a b text x y = absurd x
builtin_unique (legacy hook) a b text x y = same_builtin a b text (number_unique_of a b text x y) x y
