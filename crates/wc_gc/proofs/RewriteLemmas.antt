-- A body written under new indices, operator by operator.
use Rattle.std.proofs.Common.{◌≡◌, ◌⊎◌, inl, inr, ℕ, List, [], ◌∷◌, ◌++◌, map, refl, sym, ◌∙◌, ap, Bool, true, false, Option, Some, None, append_assoc, append-nil}
use Rattle.std.specs.Prelude.{is_some, not, Result, Ok, Err, IfOk}
use Rattle.std.specs.List.{cons_option, flat_map, list_all}
use Rattle.std.specs.Option.{option_map}
use Rattle.std.proofs.lemmas.Bool.{and_parts}
use Rattle.std.proofs.lemmas.Grind.{flat_map-append}
use Rattle.std.proofs.lemmas.List.{map-append}
use Rattle.wc_read.specs.Operators.{InstrValue, ImmediatesValue, WithNone, WithBlock, WithIndex, WithIndices, WithLabels, WithValTypes, WithRefType, WithMemArg, WithMemArgLane, WithI32, WithI64, WithBytes, WithLane, index_of}
use Rattle.wc_read.specs.References.{refs_of, one_ref, two_refs, reference, in_space, type_reference, type_refs_of}
use Rattle.wc_read.specs.Reading.Instructions.{instr_of}
use Rattle.wc_read.specs.Reading.Bodies.{locals_of}
use Rattle.wc_read.specs.Passing.{ArePassable, IsPassableCode, IsRunText, run_and_left}
use Rattle.wc_read.specs.declared.operators.Space.{Space}
use Rattle.wc_read.specs.declared.operators.Space.TheVariants.{Types, Memories}
use Rattle.wc_read.specs.declared.operators.IndexKind.{IndexKind}
use Rattle.wc_read.specs.declared.operators.IndexKind.TheVariants.{In, Elem, Data, Local, Label}
use Rattle.wc_read.specs.declared.operators.Index.{Index}
use Rattle.wc_read.specs.declared.operators.MemArg.{MemArg}
use Rattle.wc_read.specs.declared.operators.Refs.{Refs}
use Rattle.wc_read.specs.declared.operators.BlockType.TheVariants.{Empty, Value, FuncType}
use Rattle.wc_read.specs.Bodies.{BodyValue, local_types}
use Rattle.wc_read.specs.BodyOperators.{body_of}
use Rattle.wc_read.specs.InitOperators.{index_instr}
use Rattle.wc_read.specs.Inits.{end_value}
use Rattle.wc_read.specs.OperatorText.{immediates_text}
use Rattle.wc_read.specs.declared.init_operators.InitIndex.{InitIndex}
use Rattle.wc_read.specs.declared.operators.Opcode.TheVariants.{Byte}
use Rattle.wc_read.specs.Renumbering.{Renumbering, renumber, renumber_index, renumber_func_type, renumber_mem_arg, renumber_immediates, renumber_instr, renumber_val_type}
use Rattle.wc_read.specs.Types.{FuncTypeValue, type_index, type_indices}
use Rattle.wc_read.specs.declared.types.ValType.{ValType}
use Rattle.wc_read.specs.declared.types.ValType.TheVariants.{I32, I64, F32, F64, V128, FuncRef, ExternRef, FuncRefNonNull, ExternRefNonNull, TypeRef}
use Rattle.wc_read.specs.declared.bodies.Locals.{Locals}
use Rattle.wc_write.specs.Text.{vector_text}
use Rattle.wc_write.specs.Operators.{instr_text}
use Rattle.wc_write.specs.Bodies.{locals_text, body_text}
use Rattle.wc_gc.specs.Image.{new_body, renumber_code, renumber_locals}
use Rattle.wc_gc.specs.NewBodies.{calls_of}
use Rattle.wc_gc.specs.NewIndices.{new_of}
use Rattle.wc_gc.specs.Private.BodyCuts.{text_left}
use Rattle.wc_gc.specs.Private.PlainTypes.{names_no_type, names_no_types}
use Rattle.wc_gc.specs.declared.new_indices.NewIndices.{NewIndices}

-- some operators were written, and these are left of all
pub record IsWritten (new : Renumbering) (old : List ℕ) (all : Option (List InstrValue)) (out : List ℕ) (left : Option (List InstrValue)) : Type 0 where
  pub some : is_some left ≡ true
  pub same : out ++ text_left new left ≡ old ++ text_left new all

pub write_more : (new : Renumbering) (old : List ℕ) (all : Option (List InstrValue)) (out : List ℕ) (left : Option (List InstrValue)) (i : InstrValue) (after : Option (List InstrValue)) (out' : List ℕ)
    → IsWritten new old all out left → left ≡ option_map (λ is. i ∷ is) after → out' ≡ out ++ instr_text (renumber_instr new i) → IsWritten new old all out' after
write_more new old all out left i None out' w e more = let none = sym (ap is_some e) ∙ w.some in absurd cc
write_more new old all out left i (Some is) out' w e more = record {
  some = refl;
  same =
      ap (λ z. z ++ text_left new (Some is)) more ∙ (append_assoc out (instr_text (renumber_instr new i)) (text_left new (Some is))
      ∙ (ap (λ o. out ++ text_left new o) (sym e) ∙ w.same));
}

pub write_end : (new : Renumbering) (old : List ℕ) (all : Option (List InstrValue)) (out : List ℕ) (left : Option (List InstrValue)) → IsWritten new old all out left → left ≡ Some [] → out ≡ old ++ text_left new all
write_end new old all out left w e = sym (append-nil out) ∙ (ap (λ o. out ++ text_left new o) (sym e) ∙ w.same)

-- an initialiser of one operator, which names one item
pub init_index_text : (new : Renumbering) (init : Option (List InstrValue)) (i : InitIndex) → init ≡ Some (index_instr i ∷ end_value ∷ []) → (old mid out : List ℕ)
    → mid ≡ old ++ instr_text (record { opcode = Byte i.code; immediates = WithIndex (renumber_index new i.index) }) → out ≡ mid ++ 0x0b ∷ [] → out ≡ old ++ text_left new init
unfolding instr_text immediates_text
init_index_text new init i e old mid out first last =
    last ∙ (ap (λ z. z ++ 0x0b ∷ []) first ∙ (append_assoc old (instr_text (record { opcode = Byte i.code; immediates = WithIndex (renumber_index new i.index) })) (0x0b ∷ [])
    ∙ ap (λ o. old ++ text_left new o) (sym e)))

-- where there is no code, nothing is written
pub write_none : (new : Renumbering) (old : List ℕ) (code : Option (List InstrValue)) → is_some code ≡ false → old ≡ old ++ text_left new code
write_none new old None none = sym (append-nil old)
write_none new old (Some is) none = absurd cc

-- a whole body, after a call

pub body_text_is : (new : Renumbering) (call : Option ℕ) (old a b out : List ℕ) (locals : List Locals) (body : Option BodyValue) (all : Option (List InstrValue)) → is_some body ≡ true → body ≡ option_map (body_of locals) all
    → a ≡ old ++ vector_text locals_text (map (renumber_locals new) locals) → b ≡ a ++ flat_map instr_text (calls_of call) → out ≡ b ++ text_left new all
    → out ≡ old ++ body_text (record { locals = (new_body new body).locals; operators = calls_of call ++ (new_body new body).operators })
unfolding body_text
body_text_is new call old a b out locals body None some is ea eb eo = let none = sym (ap is_some is) ∙ some in absurd cc
body_text_is new call old a b out locals body (Some code) some is ea eb eo =
    let l = vector_text locals_text (map (renumber_locals new) locals) in
    let t = flat_map instr_text (calls_of call) in
    let r = text_left new (Some code) in
    let written = eo ∙ (ap (λ z. z ++ r) (eb ∙ ap (λ z. z ++ t) ea) ∙ (append_assoc (old ++ l) t r ∙ append_assoc old l (t ++ r))) in
    let whole = ap (λ z. old ++ (l ++ z)) (sym (flat_map-append instr_text (calls_of call) (renumber_code new code))) in
    written ∙ (whole ∙ ap (λ o. old ++ body_text (record { locals = (new_body new o).locals; operators = calls_of call ++ (new_body new o).operators })) (sym is))

-- operators that name nothing are the same under all indices

same_number : (new : Renumbering) (kind : IndexKind) (n : ℕ) → in_space kind n ≡ None → renumber new kind n ≡ n
same_number new (In space) n e = absurd cc
same_number new Elem n e = refl
same_number new Data n e = refl
same_number new Local n e = refl
same_number new Label n e = refl

same_index : (new : Renumbering) (i : Index) → reference i ≡ None → renumber_index new i ≡ i
same_index new i e = ap (λ (n : ℕ). index_of i.kind n) (same_number new i.kind i.number e)

no_two : (a b : Option (Space × ℕ)) → two_refs a b ≡ one_ref None → (a ≡ None) × (b ≡ None)
no_two None b e = (refl, ap (λ (r : Refs). r.first) e)
no_two (Some a) b e = let h : ◌≡◌ {A = Option (Space × ℕ)} (Some a) None = ap (λ (r : Refs). r.first) e in absurd cc

same_type : (new : Renumbering) (t : ValType) → type_index t ≡ None → renumber_val_type new t ≡ t
same_type new I32 e = refl
same_type new I64 e = refl
same_type new F32 e = refl
same_type new F64 e = refl
same_type new V128 e = refl
same_type new FuncRef e = refl
same_type new ExternRef e = refl
same_type new FuncRefNonNull e = refl
same_type new ExternRefNonNull e = refl
same_type new (TypeRef nullable index) e = absurd cc

no_first : (o : Option ℕ) (ns : List ℕ) → cons_option o ns ≡ [] → (o ≡ None) × (ns ≡ [])
no_first None ns e = (refl, e)
no_first (Some n) ns e = absurd cc

same_types : (new : Renumbering) (ts : List ValType) → type_indices ts ≡ [] → map (renumber_val_type new) ts ≡ ts
same_types new [] e = refl
same_types new (t ∷ ts) e =
    let p = no_first (type_index t) (type_indices ts) e in
    ap (λ u. u ∷ map (renumber_val_type new) ts) (same_type new t p.0) ∙ ap (λ us. t ∷ us) (same_types new ts p.1)

-- so are function types that name none

plain_none : (ts : List ValType) → list_all names_no_type ts ≡ true → type_indices ts ≡ []
plain_none [] e = refl
plain_none (t ∷ ts) e =
    let p = and_parts (names_no_type t) (list_all names_no_type ts) e in
    first (type_index t) p.0 (plain_none ts p.1)
  where
    first : (o : Option ℕ) → not (is_some o) ≡ true → type_indices ts ≡ [] → cons_option o (type_indices ts) ≡ []
    first None none e = e
    first (Some n) none e = absurd cc

pub same_func_type : (new : Renumbering) (t : FuncTypeValue) → names_no_types t ≡ true → renumber_func_type new t ≡ t
same_func_type new t e =
    let p = and_parts (list_all names_no_type t.params) (list_all names_no_type t.results) e in
    ap (λ (ps : List ValType). record { params = ps; results = map (renumber_val_type new) t.results }) (same_types new t.params (plain_none t.params p.0))
    ∙ ap (λ (rs : List ValType). record { params = t.params; results = rs }) (same_types new t.results (plain_none t.results p.1))

-- so are locals whose types name none
pub same_locals : (new : Renumbering) (ls : List Locals) → type_indices (local_types ls) ≡ [] → map (renumber_locals new) ls ≡ ls
same_locals new [] e = refl
same_locals new (l ∷ ls) e =
    let p = no_first (type_index l.ty) (type_indices (local_types ls)) e in
    ap (λ (t : ValType). locals_of l.count t ∷ map (renumber_locals new) ls) (same_type new l.ty p.0) ∙ ap (λ us. l ∷ us) (same_locals new ls p.1)

no_type : (o : Option ℕ) → ◌≡◌ {A = Option (Space × ℕ)} (option_map (λ n. (Types, n)) o) None → o ≡ None
no_type None e = refl
no_type (Some n) e = absurd cc

same_named : (new : Renumbering) (t : ValType) → one_ref (type_reference t) ≡ one_ref None → renumber_val_type new t ≡ t
same_named new t e = same_type new t (no_type (type_index t) (ap (λ (r : Refs). r.first) e))

same_immediates : (new : Renumbering) (v : ImmediatesValue) → refs_of v ≡ one_ref None → type_refs_of v ≡ [] → renumber_immediates new v ≡ v
same_immediates new WithNone e n = refl
same_immediates new (WithBlock Empty) e n = refl
same_immediates new (WithBlock (Value t)) e n = ap (λ u. WithBlock (Value u)) (same_named new t e)
same_immediates new (WithBlock (FuncType k)) e n = let h : ◌≡◌ {A = Option (Space × ℕ)} (Some (Types, k)) None = ap (λ (r : Refs). r.first) e in absurd cc
same_immediates new (WithIndex i) e n = ap WithIndex (same_index new i (ap (λ (r : Refs). r.first) e))
same_immediates new (WithIndices i j) e n =
    let p = no_two (reference i) (reference j) e in
    ap (λ (k : Index). WithIndices k (renumber_index new j)) (same_index new i p.0) ∙ ap (λ (k : Index). WithIndices i k) (same_index new j p.1)
same_immediates new (WithLabels ls d) e n = refl
same_immediates new (WithValTypes ts) e n = ap WithValTypes (same_types new ts n)
same_immediates new (WithRefType t) e n = ap WithRefType (same_named new t e)
same_immediates new (WithMemArg m) e n = let h : ◌≡◌ {A = Option (Space × ℕ)} (Some (Memories, m.memory)) None = ap (λ (r : Refs). r.first) e in absurd cc
same_immediates new (WithMemArgLane m lane) e n = let h : ◌≡◌ {A = Option (Space × ℕ)} (Some (Memories, m.memory)) None = ap (λ (r : Refs). r.first) e in
    absurd cc
same_immediates new (WithI32 k) e n = refl
same_immediates new (WithI64 k) e n = refl
same_immediates new (WithBytes bytes) e n = refl
same_immediates new (WithLane lane) e n = refl

-- so are those that name memory 0 alone, where it is memory 0 still

some_item : (x y : Space × ℕ) → ◌≡◌ {A = Option (Space × ℕ)} (Some x) (Some y) → x ≡ y
some_item x y e = cc

kept_number : (new : Renumbering) (kind : IndexKind) (n : ℕ) → new Memories 0 ≡ 0 → in_space kind n ≡ Some (Memories, 0) → renumber new kind n ≡ n
kept_number new (In space) n zero e =
    let p = some_item (space, n) (Memories, 0) e in
    let s : space ≡ Memories = ap (λ (x : Space × ℕ). x.0) p in
    let m : n ≡ 0 = ap (λ (x : Space × ℕ). x.1) p in
    rw (s, m) zero
kept_number new Elem n zero e = absurd cc
kept_number new Data n zero e = absurd cc
kept_number new Local n zero e = absurd cc
kept_number new Label n zero e = absurd cc

kept_index : (new : Renumbering) (i : Index) → new Memories 0 ≡ 0 → reference i ≡ Some (Memories, 0) → renumber_index new i ≡ i
kept_index new i zero e = ap (λ (n : ℕ). index_of i.kind n) (kept_number new i.kind i.number zero e)

one_memory : (a b : Option (Space × ℕ)) → two_refs a b ≡ one_ref (Some (Memories, 0)) → ((a ≡ None) × (b ≡ Some (Memories, 0))) ⊎ ((a ≡ Some (Memories, 0)) × (b ≡ None))
one_memory None b e = inl (refl, ap (λ (r : Refs). r.first) e)
one_memory (Some a) b e = inr (ap (λ (r : Refs). r.first) e, ap (λ (r : Refs). r.second) e)

named_memory : {P : Type 0} (o : Option ℕ) → ◌≡◌ {A = Option (Space × ℕ)} (option_map (λ n. (Types, n)) o) (Some (Memories, 0)) → P
named_memory None e = absurd cc
named_memory (Some n) e = let h : Types ≡ Memories = ap (λ (x : Space × ℕ). x.0) (some_item (Types, n) (Memories, 0) e) in absurd cc

no_memory : {P : Type 0} → ◌≡◌ {A = Option (Space × ℕ)} None (Some (Memories, 0)) → P
no_memory e = absurd cc

kept_mem_arg : (new : Renumbering) (m : MemArg) → new Memories 0 ≡ 0 → m.memory ≡ 0 → renumber_mem_arg new m ≡ m
kept_mem_arg new m zero e = ap (λ (n : ℕ). record { align = m.align; memory = n; offset = m.offset }) (ap (new Memories) e ∙ (zero ∙ sym e))

memory_is : (m : MemArg) → one_ref (Some (Memories, m.memory)) ≡ one_ref (Some (Memories, 0)) → m.memory ≡ 0
memory_is m e = ap (λ (x : Space × ℕ). x.1) (some_item (Memories, m.memory) (Memories, 0) (ap (λ (r : Refs). r.first) e))

kept_immediates : (new : Renumbering) (v : ImmediatesValue) → new Memories 0 ≡ 0 → refs_of v ≡ one_ref (Some (Memories, 0)) → renumber_immediates new v ≡ v
kept_immediates new WithNone zero e = no_memory (ap (λ (r : Refs). r.first) e)
kept_immediates new (WithBlock Empty) zero e = no_memory (ap (λ (r : Refs). r.first) e)
kept_immediates new (WithBlock (Value t)) zero e = named_memory (type_index t) (ap (λ (r : Refs). r.first) e)
kept_immediates new (WithBlock (FuncType n)) zero e = let h : Types ≡ Memories = ap (λ (x : Space × ℕ). x.0) (some_item (Types, n) (Memories, 0) (ap (λ (r : Refs). r.first) e)) in absurd cc
kept_immediates new (WithIndex i) zero e = ap WithIndex (kept_index new i zero (ap (λ (r : Refs). r.first) e))
kept_immediates new (WithIndices i j) zero e =
    elim (one_memory (reference i) (reference j) e) [
      | inl p ↦ ap (λ (k : Index). WithIndices k (renumber_index new j)) (same_index new i p.0) ∙ ap (λ (k : Index). WithIndices i k) (kept_index new j zero p.1)
      | inr p ↦ ap (λ (k : Index). WithIndices k (renumber_index new j)) (kept_index new i zero p.0) ∙ ap (λ (k : Index). WithIndices i k) (same_index new j p.1)
    ]
kept_immediates new (WithLabels ls d) zero e = no_memory (ap (λ (r : Refs). r.first) e)
kept_immediates new (WithValTypes ts) zero e = no_memory (ap (λ (r : Refs). r.first) e)
kept_immediates new (WithRefType t) zero e = named_memory (type_index t) (ap (λ (r : Refs). r.first) e)
kept_immediates new (WithMemArg m) zero e = ap WithMemArg (kept_mem_arg new m zero (memory_is m e))
kept_immediates new (WithMemArgLane m lane) zero e = ap (λ (k : MemArg). WithMemArgLane k lane) (kept_mem_arg new m zero (memory_is m e))
kept_immediates new (WithI32 n) zero e = no_memory (ap (λ (r : Refs). r.first) e)
kept_immediates new (WithI64 n) zero e = no_memory (ap (λ (r : Refs). r.first) e)
kept_immediates new (WithBytes bytes) zero e = no_memory (ap (λ (r : Refs). r.first) e)
kept_immediates new (WithLane lane) zero e = no_memory (ap (λ (r : Refs). r.first) e)

passable_immediates : (new : Renumbering) (memory : Bool) (v : ImmediatesValue) → new Memories 0 ≡ 0 → ArePassable memory (refs_of v) → type_refs_of v ≡ []
    → renumber_immediates new v ≡ v
passable_immediates new memory v zero (inl e) n = same_immediates new v e n
passable_immediates new memory v zero (inr e) n = kept_immediates new v zero e.1

same_code : (new : Renumbering) (memory : Bool) (is : List InstrValue) → new Memories 0 ≡ 0 → IsPassableCode memory is → renumber_code new is ≡ is
same_code new memory [] zero n = refl
same_code new memory (i ∷ is) zero n =
    ap (λ (v : ImmediatesValue). instr_of i.opcode v ∷ renumber_code new is) (passable_immediates new memory i.immediates zero n.0.0 n.0.2)
    ∙ ap (λ (z : List InstrValue). i ∷ z) (same_code new memory is zero n.1)

-- memory 0 is memory 0 under the new indices of live items
pub first_memory : (n : NewIndices) → new_of n Memories 0 ≡ 0
unfolding new_of
first_memory n = refl

-- so their bytes are written as they are
pub passed_text_left : (new : Renumbering) (memory : Bool) (is : List InstrValue) (bytes : List ℕ) (left : Option (List InstrValue)) → new Memories 0 ≡ 0 → IsRunText memory bytes is → is_some (run_and_left is left) ≡ true → bytes ++ text_left new left ≡ text_left new (run_and_left is left)
passed_text_left new memory is bytes None zero p some = absurd cc
passed_text_left new memory is bytes (Some others) zero p some =
    ap (λ (z : List ℕ). z ++ text_left new (Some others)) (p.0 ∙ ap (flat_map instr_text) (sym (same_code new memory is zero p.1)))
    ∙ sym (ap (flat_map instr_text) (map-append (renumber_instr new) is others) ∙ flat_map-append instr_text (renumber_code new is) (renumber_code new others))

pub next_is_written : (new : Renumbering) (memory : Bool) (old out : List ℕ) (is : List InstrValue) (bytes : List ℕ) (all mid : Option (List InstrValue)) → is_some all ≡ true → all ≡ run_and_left is mid → new Memories 0 ≡ 0 → IsRunText memory bytes is → out ≡ old ++ bytes
    → out ++ text_left new mid ≡ old ++ text_left new all
next_is_written new memory old out is bytes all mid some e zero p o =
    ap (λ (z : List ℕ). z ++ text_left new mid) o ∙ (append_assoc old bytes (text_left new mid)
    ∙ (ap (λ (z : List ℕ). old ++ z) (passed_text_left new memory is bytes mid zero p (ap is_some (sym e) ∙ some)) ∙ ap (λ (z : Option (List InstrValue)). old ++ text_left new z) (sym e)))

pub write_passed : (new : Renumbering) (old : List ℕ) (all : Option (List InstrValue)) (out : List ℕ) (left : Option (List InstrValue)) (out' : List ℕ) (after : Option (List InstrValue)) → IsWritten new old all out left
    → is_some after ≡ true → out' ++ text_left new after ≡ out ++ text_left new left → IsWritten new old all out' after
write_passed new old all out left out' after w some e = record { some = some; same = e ∙ w.same }

pub next_found : {X E : Type 0} (r : Result X E) (f : X → Option (List InstrValue)) (old out : List ℕ) (all mid : Option (List InstrValue)) → ((new : Renumbering) → new Memories 0 ≡ 0 → out ++ text_left new mid ≡ old ++ text_left new all)
    → IfOk r (λ i. mid ≡ f i) → IfOk r (λ i. (new : Renumbering) → new Memories 0 ≡ 0 → out ++ text_left new (f i) ≡ old ++ text_left new all)
next_found (Ok i) f old out all mid written h = λ new zero. ap (λ (z : Option (List InstrValue)). out ++ text_left new z) (sym h) ∙ written new zero
next_found (Err x) f old out all mid written h = tt
