-- The locals of a body that are passed over.
use Rattle.std.proofs.Common.{◌≡◌, ◌≢◌, ℕ, suc, ◌+◌, ◌-◌, ◌*◌, ◌^◌, ◌<◌, ◌≤◌, List, [], ◌∷◌, ◌++◌, length, take, Bool, true, false, Option, Some, None, Ok, inl, inr, refl}
use Rattle.std.proofs.Common.{sym, ◌∙◌, ap, arith, append_assoc, append-nil, subst, eqb-true, true≢false}
use Rattle.std.specs.Prelude.{nat_lt, ◌&&◌}
use Rattle.std.specs.List.{flat_map}
use Rattle.std.proofs.lemmas.Bool.Decides.{nat_tests}
use Rattle.std.proofs.lemmas.List.{length-append, map-append}
use Rattle.std.proofs.lemmas.List.Elements.{filter_map-append}
use Rattle.std.proofs.Math.Seq.{take-append_seam}
use Rattle.std.proofs.lemmas.Bool.{and_parts}
use Rattle.wc_read.specs.Options.{◌>>=◌}
use Rattle.wc_read.specs.Types.{SpellsValType, type_index, type_indices}
use Rattle.wc_read.specs.Bodies.{SpellsLocals, local_count, local_types}
use Rattle.wc_read.specs.Text.{number_text, val_type_text, vector_text, locals_text}
use Rattle.wc_read.specs.BodyOperators.{body_in, locals_in}
use Rattle.wc_read.specs.Private.TextSizes.{IsLonger, IsShortest}
use Rattle.wc_read.specs.Private.LocalRuns.{AreMoreIfNot, IsShortRun, PassesLocals, is_plain_text}
use Rattle.wc_read.specs.Reading.Reader.{number_at, vector_at, items_at}
use Rattle.wc_read.specs.Reading.Types.{val_type_at}
use Rattle.wc_read.specs.Reading.Bodies.{locals_at, locals_of}
use Rattle.wc_read.specs.declared.bodies.Locals.{Locals}
use Rattle.wc_read.specs.declared.types.ValType.{ValType}
use Rattle.wc_read.specs.declared.types.ValType.TheVariants.{I32, I64, F32, F64, V128, FuncRef, ExternRef, FuncRefNonNull, ExternRefNonNull, TypeRef}
use Rattle.wc_read.proofs.OptionsLemmas.{some_pair, some_none, bind_some, bind_none}
use Rattle.wc_read.proofs.TypesLemmas.{val_type_meets}
use Rattle.wc_read.proofs.BodiesLemmas.{locals_meet}
use Rattle.wc_read.proofs.MeetsLemmas.{vector_meets}
use Rattle.wc_read.proofs.NumbersLemmas.{number_last, seven_bits}
use Rattle.wc_read.proofs.ShortestTextLemmas.{AreBytes, digits_last, number_left, number_long, text_shorter}
use Rattle.wc_read.proofs.CountedLemmas.{IsPartRead, part_start, part_end, part_fails, part_more, after_front}
use Rattle.wc_read.proofs.DecodingLemmas.{body_no_locals, body_too_many}

pub number_shortest : (input : List ℕ) (n : ℕ) (rest : List ℕ) → AreBytes input → number_at 32 input ≡ Some (n, rest)
    → IsShortest n (length input - length rest) → input ≡ number_text n ++ rest
number_shortest input n rest all e shortest =
    let s = number_long 32 input n rest all e shortest in
    let p = some_pair n s.value rest s.left (sym e ∙ s.read_is) in
    s.cut ∙ (ap (λ (k : ℕ). number_text k ++ s.left) (sym p.0) ∙ ap (λ (z : List ℕ). number_text n ++ z) (sym p.1))

pub short_count : (old : List ℕ) (b : ℕ) (rest : List ℕ) → old ≡ b ∷ rest → b < 128 → (number_at 32 old ≡ Some (b, rest)) × (old ≡ number_text b ++ rest)
short_count old b rest e small = (
  ap (number_at 32) e ∙ number_last 32 b rest small (seven_bits 32 b small (omega arith)),
  e ∙ ap (λ (z : List ℕ). z ++ rest) (sym (digits_last 9 b small)),
)

-- a number that is not its text has more bytes than that
pub number_longer : (input : List ℕ) (n : ℕ) (rest : List ℕ) → number_at 32 input ≡ Some (n, rest) → IsLonger n (length input - length rest)
    → length (number_text n) + length rest < length input
number_longer input n rest e longer =
    let h = text_shorter n (length input - length rest) longer in
    let within = number_left 32 input n rest e in
    omega arith

-- a value type by as many bytes as its text has

type_is : (text : List ℕ) (ty : ValType) → is_plain_text ty (length text) ≡ true → SpellsValType text ty
    → (text ≡ val_type_text ty) × (type_index ty ≡ None)
type_is text I32 plain s = (s, refl)
type_is text I64 plain s = (s, refl)
type_is text F32 plain s = (s, refl)
type_is text F64 plain s = (s, refl)
type_is text V128 plain s = (s, refl)
type_is text FuncRef plain (inl s) = (s, refl)
type_is text FuncRef plain (inr s) = absurd (omega (arith, sym (eqb-true (length text) 1 plain) ∙ ap length s))
type_is text ExternRef plain (inl s) = (s, refl)
type_is text ExternRef plain (inr s) = absurd (omega (arith, sym (eqb-true (length text) 1 plain) ∙ ap length s))
type_is text FuncRefNonNull plain s = (s, refl)
type_is text ExternRefNonNull plain s = (s, refl)
type_is text (TypeRef nullable index) plain s = absurd (true≢false (sym plain))

-- and by more
type_more : (text : List ℕ) (ty : ValType) → is_plain_text ty (length text) ≡ false → type_index ty ≡ None → SpellsValType text ty
    → length (val_type_text ty) < length text
type_more text I32 plain none s = absurd (true≢false (rw s at plain))
type_more text I64 plain none s = absurd (true≢false (rw s at plain))
type_more text F32 plain none s = absurd (true≢false (rw s at plain))
type_more text F64 plain none s = absurd (true≢false (rw s at plain))
type_more text V128 plain none s = absurd (true≢false (rw s at plain))
type_more text FuncRef plain none (inl s) = absurd (true≢false (rw s at plain))
type_more text FuncRef plain none (inr s) = omega (arith, ap length s)
type_more text ExternRef plain none (inl s) = absurd (true≢false (rw s at plain))
type_more text ExternRef plain none (inr s) = omega (arith, ap length s)
type_more text FuncRefNonNull plain none s = absurd (true≢false (rw s at plain))
type_more text ExternRefNonNull plain none s = absurd (true≢false (rw s at plain))
type_more text (TypeRef nullable index) plain none s = absurd (some_none index none)

type_text : (input : List ℕ) (ty : ValType) (rest : List ℕ) → val_type_at input ≡ Some (ty, rest) → is_plain_text ty (length input - length rest) ≡ true
    → (input ≡ val_type_text ty ++ rest) × (type_index ty ≡ None)
type_text input ty rest e plain =
    let t = val_type_meets.parses input ty rest e in
    let size : length input - length rest ≡ length t.0 = omega (arith, ap length t.1, length-append t.0 rest) in
    let is = type_is t.0 ty (rw size at plain) t.2 in
    (t.1 ∙ ap (λ (z : List ℕ). z ++ rest) is.0, is.1)

type_longer : (input : List ℕ) (ty : ValType) (rest : List ℕ) → val_type_at input ≡ Some (ty, rest) → is_plain_text ty (length input - length rest) ≡ false
    → type_index ty ≡ None → length (val_type_text ty) + length rest < length input
type_longer input ty rest e plain none =
    let t = val_type_meets.parses input ty rest e in
    let parts : length input ≡ length t.0 + length rest = ap length t.1 ∙ length-append t.0 rest in
    let size : length input - length rest ≡ length t.0 = omega arith in
    let more = type_more t.0 ty (rw size at plain) none t.2 in
    omega arith

-- where one of two is not its text, both have more bytes than their texts
at_least : (is_text : Bool) (text old rest : List ℕ) → (is_text ≡ true → old ≡ text ++ rest) → AreMoreIfNot is_text (length text) old rest
    → length text + length rest ≤ length old
at_least true text old rest e more = omega (arith, ap length (e refl), length-append text rest)
at_least false text old rest e more = let h = more refl in omega arith

both_more : (a b both : Bool) (front back old mid new : List ℕ) → both ≡ (a && b) → (a ≡ true → old ≡ front ++ mid) → AreMoreIfNot a (length front) old mid
    → (b ≡ true → mid ≡ back ++ new) → AreMoreIfNot b (length back) mid new → AreMoreIfNot both (length (front ++ back)) old new
both_more true true both front back old mid new is first more second again = λ no. absurd (true≢false (sym is ∙ no))
both_more true false both front back old mid new is first more second again = λ _.
    let h = again refl in
    let k = at_least true front old mid first more in
    omega (arith, length-append front back)
both_more false b both front back old mid new is first more second again = λ _.
    let h = more refl in
    let k = at_least b back mid new second again in
    omega (arith, length-append front back)

pub type_within : (input : List ℕ) (ty : ValType) (rest : List ℕ) → val_type_at input ≡ Some (ty, rest) → length rest ≤ length input
type_within input ty rest e = let t = val_type_meets.parses input ty rest e in omega (arith, ap length t.1, length-append t.0 rest)

pub run_read : (old mid new : List ℕ) (count : ℕ) (is_text is_run_text : Bool) (ty : ValType) → (number_at 32 old ≡ Some (count, mid))
    × (is_text ≡ true → old ≡ number_text count ++ mid) × AreMoreIfNot is_text (length (number_text count)) old mid → val_type_at mid ≡ Some (ty, new)
    → is_run_text ≡ (is_text && is_plain_text ty (length mid - length new)) → (t : ValType) × (locals_at old ≡ Some (locals_of count t, new))
    × (is_run_text ≡ true → (old ≡ locals_text (locals_of count t) ++ new) × (type_index t ≡ None))
    × (type_index t ≡ None → AreMoreIfNot is_run_text (length (locals_text (locals_of count t))) old new)
unfolding locals_at
run_read old mid new count is_text is_run_text ty (read, text, more) typed both = (
  ty,
  bind_some (number_at 32 old) _ (count, mid) read ∙ bind_some (val_type_at mid) _ (ty, new) typed,
  (λ is.
      let t = and_parts is_text (is_plain_text ty (length mid - length new)) (sym both ∙ is) in
      let typed_text = type_text mid ty new typed t.1 in
      (text t.0 ∙ (ap (λ (z : List ℕ). number_text count ++ z) typed_text.0 ∙ sym (append_assoc (number_text count) (val_type_text ty) new)), typed_text.1)),
  λ none. both_more is_text (is_plain_text ty (length mid - length new)) is_run_text (number_text count) (val_type_text ty) old mid new both text more
      (λ is. (type_text mid ty new typed is).0) (λ no. type_longer mid ty new typed no none),
)

-- runs that were passed, and those that are left
pub record AreRunsPassed (old : List ℕ) (count index : ℕ) (rest : List ℕ) (total : ℕ) (is_text : Bool) : Type 0 where
  pub runs : List Locals
  pub read : IsPartRead locals_at runs (count - index) rest (vector_at locals_at old)
  pub sum : total ≡ local_count runs
  pub many : length runs ≡ index
  pub text : is_text ≡ true → (old ≡ number_text count ++ (flat_map locals_text runs ++ rest)) × (type_indices (local_types runs) ≡ [])
  pub more : type_indices (local_types runs) ≡ [] → AreMoreIfNot is_text (length (number_text count ++ flat_map locals_text runs)) old rest

pub runs_start : (old mid : List ℕ) (count : ℕ) (is_run_text : Bool) → (number_at 32 old ≡ Some (count, mid))
    × (is_run_text ≡ true → old ≡ number_text count ++ mid) × AreMoreIfNot is_run_text (length (number_text count)) old mid
    → AreRunsPassed old count 0 mid 0 is_run_text
runs_start old mid count is_run_text (read, text, longer) = let e : count - 0 ≡ count = omega arith in
    record { runs = []; read = rw e (part_start locals_at old count mid read); sum = refl; many = refl; text = λ is. (text is, refl); more = λ none no. rw (append-nil (number_text count)) (longer no) }

count_more : (runs : List Locals) (run : Locals) → local_count (runs ++ run ∷ []) ≡ local_count runs + run.count
count_more [] run = omega arith
count_more (x ∷ runs) run = let h = count_more runs run in omega arith

text_more : (runs : List Locals) (run : Locals) (rest : List ℕ) → flat_map locals_text (runs ++ run ∷ []) ++ rest ≡ flat_map locals_text runs
    ++ (locals_text run ++ rest)
text_more [] run rest = ap (λ (z : List ℕ). z ++ rest) (append-nil (locals_text run))
text_more (x ∷ runs) run rest =
    append_assoc (locals_text x) (flat_map locals_text (runs ++ run ∷ [])) rest
    ∙ (ap (λ (z : List ℕ). locals_text x ++ z) (text_more runs run rest)
    ∙ sym (append_assoc (locals_text x) (flat_map locals_text runs) (locals_text run ++ rest)))

text_ends : (runs : List Locals) (run : Locals) → flat_map locals_text (runs ++ run ∷ []) ≡ flat_map locals_text runs ++ locals_text run
text_ends [] run = append-nil (locals_text run)
text_ends (x ∷ runs) run = ap (λ (z : List ℕ). locals_text x ++ z) (text_ends runs run) ∙ sym (append_assoc (locals_text x) (flat_map locals_text runs) (locals_text run))

no_types_more : (runs : List Locals) (run : Locals) → type_indices (local_types runs) ≡ [] → type_index run.ty ≡ None
    → type_indices (local_types (runs ++ run ∷ [])) ≡ []
no_types_more runs run none plain =
    ap type_indices (map-append (λ (l : Locals). l.ty) runs (run ∷ []))
    ∙ (filter_map-append type_index (local_types runs) (run.ty ∷ []) ∙ rw (none, plain) refl)

no_parts : (a b : List ℕ) → a ++ b ≡ [] → (a ≡ []) × (b ≡ [])
no_parts [] b e = (refl, e)
no_parts (x ∷ a) b e = absurd cc

no_type : (ty : ValType) → type_indices (ty ∷ []) ≡ [] → type_index ty ≡ None
no_type I32 e = refl
no_type I64 e = refl
no_type F32 e = refl
no_type F64 e = refl
no_type V128 e = refl
no_type FuncRef e = refl
no_type ExternRef e = refl
no_type FuncRefNonNull e = refl
no_type ExternRefNonNull e = refl
no_type (TypeRef nullable index) e = absurd cc

no_types_less : (runs : List Locals) (run : Locals) → type_indices (local_types (runs ++ run ∷ [])) ≡ [] → (type_indices (local_types runs) ≡ []) × (type_index run.ty ≡ None)
no_types_less runs run none =
    let parts = no_parts (type_indices (local_types runs)) (type_indices (run.ty ∷ []))
    (sym (filter_map-append type_index (local_types runs) (run.ty ∷ [])) ∙ (sym (ap type_indices (map-append (λ (l : Locals). l.ty) runs (run ∷ []))) ∙ none)) in
    (parts.0, no_type run.ty parts.1)

pub runs_more : (old : List ℕ) (count index : ℕ) (rest : List ℕ) (total : ℕ) (is_text : Bool) (locals : ℕ) (is_run_text : Bool) (ty : ValType)
    (new : List ℕ) (sum : ℕ) (both : Bool) → AreRunsPassed old count index rest total is_text → index < count
    → locals_at rest ≡ Some (locals_of locals ty, new)
    → (is_run_text ≡ true → (rest ≡ locals_text (locals_of locals ty) ++ new) × (type_index ty ≡ None))
    → (type_index ty ≡ None → AreMoreIfNot is_run_text (length (locals_text (locals_of locals ty))) rest new) → sum ≡ total + locals
    → both ≡ (is_text && is_run_text) → AreRunsPassed old count (index + 1) new sum both
runs_more old count index rest total is_text locals is_run_text ty new sum both s more read text longer added are =
    let left : count - index ≡ suc (count - (index + 1)) = omega arith in
    record {
      runs = s.runs ++ locals_of locals ty ∷ [];
      read = part_more locals_at s.runs (count - (index + 1)) rest (vector_at locals_at old) (locals_of locals ty) new (rw left at s.read) read;
      sum = added ∙ (ap (λ (k : ℕ). k + locals) s.sum ∙ sym (count_more s.runs (locals_of locals ty)));
      many = length-append s.runs (locals_of locals ty ∷ []) ∙ ap (λ (k : ℕ). k + 1) s.many;
      text = λ e. let t = and_parts is_text is_run_text (sym are ∙ e) in
          let was = s.text t.0 in
          let here = text t.1 in (
            was.0 ∙ (ap (λ (z : List ℕ). number_text count ++ (flat_map locals_text s.runs ++ z)) here.0 ∙ ap (λ (z : List ℕ). number_text count ++ z)
                (sym (text_more s.runs (locals_of locals ty) new))),
            no_types_more s.runs (locals_of locals ty) was.1 here.1,
          );
      more = λ none.
          let types = no_types_less s.runs (locals_of locals ty) none in
          let front = number_text count ++ flat_map locals_text s.runs in
          let joined : number_text count ++ flat_map locals_text (s.runs ++ locals_of locals ty ∷ []) ≡ front ++ locals_text (locals_of locals ty) =
          ap (λ (z : List ℕ). number_text count ++ z) (text_ends s.runs (locals_of locals ty))
          ∙ sym (append_assoc (number_text count) (flat_map locals_text s.runs) (locals_text (locals_of locals ty))) in
          rw joined (both_more is_text is_run_text both front (locals_text (locals_of locals ty)) old rest new are
          (λ is. (s.text is).0 ∙ sym (append_assoc (number_text count) (flat_map locals_text s.runs) rest)) (s.more types.0)
          (λ is. (text is).0) (longer types.1));
    }

pub runs_end : (old : List ℕ) (count index : ℕ) (rest : List ℕ) (total : ℕ) (is_text : Bool) → AreRunsPassed old count index rest total is_text
    → index ≤ count → count ≤ index → total < 2 ^ 32
    → (runs : List Locals) × (vector_at locals_at old ≡ Some (runs, rest)) × (local_count runs < 2 ^ 32)
    × (is_text ≡ true → (old ≡ vector_text locals_text runs ++ rest) × (type_indices (local_types runs) ≡ []))
    × (is_text ≡ false → type_indices (local_types runs) ≡ [] → old ≢ vector_text locals_text runs ++ rest)
runs_end old count index rest total is_text s within all bounded =
    let none : count - index ≡ 0 = omega arith in
    let many : count ≡ length s.runs = omega (arith, s.many) in (
      s.runs,
      part_end locals_at s.runs rest (vector_at locals_at old) (rw none at s.read),
      subst (λ (k : ℕ). k < 2 ^ 32) s.sum bounded,
      (λ e. (
        (s.text e).0 ∙ (ap (λ (k : ℕ). number_text k ++ (flat_map locals_text s.runs ++ rest)) many
            ∙ sym (append_assoc (number_text (length s.runs)) (flat_map locals_text s.runs) rest)),
        (s.text e).1,
      )),
      (λ no none e.
          let h = s.more none no in
          let same : length (number_text count ++ flat_map locals_text s.runs) ≡ length (vector_text locals_text s.runs) = rw many refl in
          absurd (omega (arith, ap length e, length-append (vector_text locals_text s.runs) rest))),
    )

pub runs_none : (old : List ℕ) → number_at 32 old ≡ None → (runs : List Locals) (rest : List ℕ) → vector_at locals_at old ≡ Some (runs, rest)
    → 2 ^ 32 ≤ local_count runs
unfolding vector_at
runs_none old none runs rest e = absurd (some_none (runs, rest) (sym e ∙ bind_none (number_at 32 old) _ none))

pub runs_fail : (old : List ℕ) (count index : ℕ) (rest : List ℕ) (total : ℕ) (is_text : Bool) → AreRunsPassed old count index rest total is_text
    → index < count → locals_at rest ≡ None
    → (runs : List Locals) (after : List ℕ) → vector_at locals_at old ≡ Some (runs, after) → 2 ^ 32 ≤ local_count runs
runs_fail old count index rest total is_text s more none runs after e =
    let left : count - index ≡ suc (count - (index + 1)) = omega arith in
    absurd (some_none (runs, after) (sym e ∙ part_fails locals_at s.runs (count - (index + 1)) rest (vector_at locals_at old) (rw left at s.read) none))

count_append : (a b : List Locals) → local_count (a ++ b) ≡ local_count a + local_count b
count_append [] b = omega arith
count_append (x ∷ a) b = let h = count_append a b in omega arith

front_of : (front : List Locals) (o : Option (List Locals × List ℕ)) (runs : List Locals) (after : List ℕ)
    → (o >>= after_front front) ≡ Some (runs, after) → local_count front ≤ local_count runs
front_of front None runs after e = absurd cc
front_of front (Some x) runs after e = let p = some_pair (front ++ x.0) runs x.1 after e in rw (sym p.0) (omega (arith, count_append front x.0))

pub runs_many : (old : List ℕ) (count index : ℕ) (rest : List ℕ) (total : ℕ) (is_text : Bool) (locals : ℕ) (ty : ValType) (new : List ℕ)
    → AreRunsPassed old count index rest total is_text → index < count
    → locals_at rest ≡ Some (locals_of locals ty, new) → 2 ^ 32 ≤ total + locals → (runs : List Locals) (after : List ℕ)
    → vector_at locals_at old ≡ Some (runs, after) → 2 ^ 32 ≤ local_count runs
runs_many old count index rest total is_text locals ty new s more read many runs after e =
    let left : count - index ≡ suc (count - (index + 1)) = omega arith in
    let part = part_more locals_at s.runs (count - (index + 1)) rest (vector_at locals_at old) (locals_of locals ty) new (rw left at s.read) read in
    let least : local_count (s.runs ++ locals_of locals ty ∷ []) ≤ local_count runs = front_of (s.runs ++ locals_of locals ty ∷ [])
    (items_at locals_at (count - (index + 1)) new) runs after (sym part.gives ∙ e) in
    let sum = count_more s.runs (locals_of locals ty) in
    let was = s.sum in omega arith

-- no body begins with locals that were refused
pub refused_locals : (bytes : List ℕ) → ((runs : List Locals) (rest : List ℕ) → vector_at locals_at bytes ≡ Some (runs, rest)
    → 2 ^ 32 ≤ local_count runs) → (o : Option (List Locals × List ℕ)) → vector_at locals_at bytes ≡ o → body_in bytes ≡ None
refused_locals bytes all None e = body_no_locals bytes e
refused_locals bytes all (Some x) e = let many = all x.0 x.1 e in body_too_many bytes x.0 x.1 e (is_more (local_count x.0) many)
  where
    is_more : (n : ℕ) → 2 ^ 32 ≤ n → false ≡ nat_lt n (2 ^ 32)
    is_more n h = grind (arith, nat_tests)

-- short runs, whose counts and types have a byte each

-- those that were passed, and those that are left; each has fewer than 128 locals
pub record AreShortRuns (old : List ℕ) (count index : ℕ) (rest : List ℕ) : Type 0 where
  pub total : ℕ
  pub few : total ≤ 127 * index
  pub passed : AreRunsPassed old count index rest total true

pub short_start : (old : List ℕ) (count : ℕ) (rest : List ℕ) → old ≡ count ∷ rest → count < 128 → AreShortRuns old count 0 rest
short_start old count rest e small =
    let p = short_count old count rest e small in
    record { total = 0; few = omega arith; passed = runs_start old rest count true (p.0, (λ is. p.1), (λ no. absurd (true≢false no))) }

short_run : (old new : List ℕ) (run : IsShortRun old new)
    → (locals_at old ≡ Some (locals_of run.0 run.4.ty, new)) × (old ≡ locals_text (locals_of run.0 run.4.ty) ++ new)
unfolding locals_at
short_run old new (count, byte, cut, small, plain) =
    let p = short_count old count (byte ∷ new) cut small in (
      bind_some (number_at 32 old) _ (count, byte ∷ new) p.0 ∙ bind_some (val_type_at (byte ∷ new)) _ (plain.ty, new) (plain.reads new),
      p.1 ∙ (ap (λ (z : List ℕ). number_text count ++ (z ++ new)) (sym plain.text) ∙ sym (append_assoc (number_text count) (val_type_text plain.ty) new)),
    )

pub short_more : (old : List ℕ) (count index : ℕ) (rest new : List ℕ) → AreShortRuns old count index rest → index < count → IsShortRun rest new → AreShortRuns old count (index + 1) new
short_more old count index rest new s more run =
    let p = short_run rest new run in
    record {
      total = s.total + run.0;
      few = let small = run.3 in let was = s.few in omega arith;
      passed = runs_more old count index rest s.total true run.0 true run.4.ty new (s.total + run.0) true s.passed more p.0 (λ is. (p.1, run.4.names_none)) (λ none no. absurd (true≢false no)) refl refl;
    }

pub short_end : (old : List ℕ) (count index : ℕ) (rest : List ℕ) → AreShortRuns old count index rest → index ≤ count → count ≤ index → count < 128 → PassesLocals (Ok true) old rest
short_end old count index rest s within all small = runs_end old count index rest s.total true s.passed within all (let few = s.few in omega arith)

-- the bytes of locals by themselves
pub kept_locals : (bytes rest : List ℕ) (runs : List Locals) → vector_at locals_at bytes ≡ Some (runs, rest)
    → vector_at locals_at (take (length bytes - length rest) bytes) ≡ Some (runs, [])
kept_locals bytes rest runs e =
    let t = (vector_meets SpellsLocals locals_at locals_meet).parses bytes runs rest e in
    let parts : length bytes ≡ length t.0 + length rest = ap length t.1 ∙ length-append t.0 rest in
    let size : length bytes - length rest ≡ length t.0 = omega arith in
    let front : take (length bytes - length rest) bytes ≡ t.0 = rw size (ap (λ (z : List ℕ). take (length t.0) z) t.1 ∙ take-append_seam t.0 rest) in
    rw front (ap (λ (z : List ℕ). vector_at locals_at z) (sym (append-nil t.0)) ∙ (vector_meets SpellsLocals locals_at locals_meet).again t.0 runs [] t.2)

pub kept_text : (bytes rest text : List ℕ) → bytes ≡ text ++ rest → take (length bytes - length rest) bytes ≡ text
kept_text bytes rest text e =
    let parts : length bytes ≡ length text + length rest = ap length e ∙ length-append text rest in
    let size : length bytes - length rest ≡ length text = omega arith in
    rw size (ap (λ (z : List ℕ). take (length text) z) e ∙ take-append_seam text rest)

pub front_runs : (front bytes rest : List ℕ) (runs : List Locals) → front ≡ take (length bytes - length rest) bytes
    → vector_at locals_at bytes ≡ Some (runs, rest) → locals_in front ≡ runs
unfolding locals_in
front_runs front bytes rest runs cut e = rw (cut, kept_locals bytes rest runs e) refl

pub keeps_read : (front bytes rest : List ℕ) (runs : List Locals) → front ≡ take (length bytes - length rest) bytes
    → vector_at locals_at bytes ≡ Some (runs, rest) → vector_at locals_at front ≡ Some (locals_in front, [])
keeps_read front bytes rest runs cut e = ap (λ (z : List ℕ). vector_at locals_at z) cut
    ∙ (kept_locals bytes rest runs e ∙ ap (λ (z : List Locals). Some (z, [])) (sym (front_runs front bytes rest runs cut e)))

pub keeps_text : (front bytes rest : List ℕ) (runs : List Locals) → front ≡ take (length bytes - length rest) bytes
    → vector_at locals_at bytes ≡ Some (runs, rest) → bytes ≡ vector_text locals_text runs ++ rest → front ≡ vector_text locals_text (locals_in front)
keeps_text front bytes rest runs cut e t =
    cut ∙ (kept_text bytes rest (vector_text locals_text runs) t ∙ ap (λ (z : List Locals). vector_text locals_text z)
    (sym (front_runs front bytes rest runs cut e)))

pub keeps_no_types : (front bytes rest : List ℕ) (runs : List Locals) → front ≡ take (length bytes - length rest) bytes
    → vector_at locals_at bytes ≡ Some (runs, rest) → type_indices (local_types runs) ≡ [] → type_indices (local_types (locals_in front)) ≡ []
keeps_no_types front bytes rest runs cut e none = ap (λ (z : List Locals). type_indices (local_types z)) (front_runs front bytes rest runs cut e) ∙ none

pub keeps_exact : (front bytes rest : List ℕ) (runs : List Locals) → front ≡ take (length bytes - length rest) bytes
    → vector_at locals_at bytes ≡ Some (runs, rest) → (type_indices (local_types runs) ≡ [] → bytes ≢ vector_text locals_text runs ++ rest)
    → type_indices (local_types (locals_in front)) ≡ [] → front ≢ vector_text locals_text (locals_in front)
keeps_exact front bytes rest runs cut e not_text none text =
    let read = front_runs front bytes rest runs cut e in
    let t = (vector_meets SpellsLocals locals_at locals_meet).parses bytes runs rest e in
    let whole : bytes ≡ front ++ rest = t.1 ∙ ap (λ (z : List ℕ). z ++ rest) (sym (cut ∙ kept_text bytes rest t.0 t.1)) in
    not_text (subst (λ (z : List Locals). type_indices (local_types z) ≡ []) read none)
    (whole ∙ ap (λ (z : List ℕ). z ++ rest) (text ∙ ap (λ (z : List Locals). vector_text locals_text z) read))

pub small_enough : (n : ℕ) → n < 2 ^ 32 → nat_lt n (2 ^ 32) ≡ true
small_enough n h = grind (arith, nat_tests)

pub rest_within : (bytes rest : List ℕ) (runs : List Locals) → vector_at locals_at bytes ≡ Some (runs, rest) → length rest ≤ length bytes
rest_within bytes rest runs e = let t = (vector_meets SpellsLocals locals_at locals_meet).parses bytes runs rest e in
    rw t.1 (omega (arith, length-append t.0 rest))
