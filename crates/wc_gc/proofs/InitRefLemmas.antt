-- What an initialiser names is there, and it is code.
use Rattle.std.proofs.Common.{◌≡◌, ℕ, zero, suc, ◌+◌, ◌-◌, ◌<◌, ◌≤◌, List, [], ◌∷◌, ◌++◌, length, refl, sym, ◌∙◌, ap, subst, Bool, true, false, Option, Some, None, arith, ltb-true, eqb-true}
use Rattle.std.specs.Prelude.{IsTrue, is_some, nat_lt, ◌==◌, if◌then◌else◌}
use Rattle.std.specs.List.{AllByRecursion, slice_get}
use Rattle.std.proofs.lemmas.Bool.{lt-ltb}
use Rattle.std.proofs.lemmas.Bool.Decides.{nat_tests}
use Rattle.std.proofs.lemmas.List.{length-append, length-map}
use Rattle.std.proofs.lemmas.List.Elements.{recursion_from_All}
use Rattle.std.proofs.lemmas.Option.{slice_get_within}
use Rattle.wc_read.specs.BodyOperators.{body_in, init_in}
use Rattle.wc_read.specs.Inits.{constant_byte, constant_of, end_value}
use Rattle.wc_read.specs.InitTypes.{InitScope, class_of, is_non_null, class_named, given_by, integer_class, integers_class, LeavesOne, alone, joined, IsTyped, IsTypedDef, types_of}
use Rattle.wc_read.specs.Items.{DefValue, imported, local, GlobalValue}
use Rattle.wc_read.specs.Modules.{ModuleValue, IsModule}
use Rattle.wc_read.specs.Operators.{byte_form, vector_form, form_of, ImmediatesValue, WithNone, WithBlock, WithIndex, WithIndices, WithLabels, WithValTypes, WithRefType, WithMemArg, WithMemArgLane, WithI32, WithI64, WithBytes, WithLane, InstrValue}
use Rattle.wc_read.specs.Options.{◌>>=◌}
use Rattle.wc_read.specs.declared.inits.Constant.{Constant}
use Rattle.wc_read.specs.declared.inits.Constant.TheVariants.{Value, Null, Func, Global, Integer}
use Rattle.wc_read.specs.declared.operators.Form.{Form}
use Rattle.wc_read.specs.declared.operators.Form.TheVariants.{None as form_none, I32 as form_i32, I64 as form_i64, Bytes as form_bytes}
use Rattle.wc_read.specs.declared.operators.IndexKind.TheVariants.{In}
use Rattle.wc_read.specs.declared.operators.Opcode.{Opcode}
use Rattle.wc_read.specs.declared.operators.Opcode.TheVariants.{Byte, Misc, Vector, Atomic}
use Rattle.wc_read.specs.declared.operators.Space.TheVariants.{Types, Funcs, Globals}
use Rattle.wc_read.specs.declared.types.GlobalType.{GlobalType}
use Rattle.wc_read.specs.declared.types.ValType.{ValType}
use Rattle.wc_read.specs.declared.types.ValType.TheVariants.{I32, I64, F32, F64, V128, FuncRef, ExternRef, FuncRefNonNull, ExternRefNonNull, TypeRef}
use Rattle.wc_read.specs.declared.inits.ValueClass.{ValueClass}
use Rattle.wc_read.specs.declared.inits.ValueClass.TheVariants.{Func as FuncClass}
use Rattle.wc_read.proofs.DecodingLemmas.{init_found}
use Rattle.wc_read.proofs.OptionsLemmas.{some_same}
use Rattle.wc_read.specs.Items.{def_seen, item_seen}
use Rattle.wc_write.specs.BuiltValues.{HasInitialiser, IsInitialiser, IsWritable}
use Rattle.wc_write.specs.Values.{HasForm, IsInstr}
use Rattle.wc_read.specs.Decoded.{ItemIndex, decode, is_in, is_code}
use Rattle.wc_read.specs.Entries.{code_refs, def_refs, global_refs, init_refs, instr_refs, val_type_refs}
use Rattle.wc_gc.proofs.BuiltPartLemmas.{all_at}
use Rattle.wc_gc.proofs.InitTypeLemmas.{all-left, all-right, func_code, func_form, global_code, global_form, named_by}
use Rattle.wc_gc.proofs.NamedThereLemmas.{There, global_type_there}
use Rattle.wc_gc.proofs.SpelledItemLemmas.{all_joined}

-- what each of some operators names, and what all of them name

abbrev pub EachNamed : (ItemIndex → Type 0) → List InstrValue → Type 0
EachNamed may is = AllByRecursion (λ i. AllByRecursion may (instr_refs i)) is

pub all_named : (may : ItemIndex → Type 0) (is : List InstrValue) → EachNamed may is → AllByRecursion may (code_refs is)
all_named may [] h = tt
all_named may (i ∷ is) h = all_joined may (instr_refs i) (code_refs is) h.0 (all_named may is h.1)

-- immediates of a form that the table has for a code
has_form : (code : Opcode) (v : ImmediatesValue) (i : IsInstr (record { opcode = code; immediates = v })) (form : Form) → form_of code ≡ Some form → HasForm form v
has_form code v i form e = subst (λ (f : Form). HasForm f v) (some_same i.form form (sym i.in_table ∙ e)) i.has_form

-- the codes of constants and of operators on integers

value_from : (b : ℕ) (t : ValType) → constant_byte b ≡ Some (Value t) → 0x41 ≤ b
unfolding constant_byte
value_from b t h = grind (arith, nat_tests)

value_to : (b : ℕ) (t : ValType) → constant_byte b ≡ Some (Value t) → b ≤ 0x44
unfolding constant_byte
value_to b t h = grind (arith, nat_tests)

integer_from : (b : ℕ) (t : ValType) → constant_byte b ≡ Some (Integer t) → 0x45 ≤ b
unfolding constant_byte
integer_from b t h = grind (arith, nat_tests)

integer_to : (b : ℕ) (t : ValType) → constant_byte b ≡ Some (Integer t) → b ≤ 0xc4
unfolding constant_byte
integer_to b t h = grind (arith, nat_tests)

integer_form : (b : ℕ) → 0x45 ≤ b → b ≤ 0xc4 → byte_form b ≡ Some form_none
unfolding byte_form
integer_form b h k = grind (arith, nat_tests)

i32_form : (b : ℕ) → b ≡ 0x41 → byte_form b ≡ Some form_i32
unfolding byte_form
i32_form b e = rw e refl

i64_form : (b : ℕ) → b ≡ 0x42 → byte_form b ≡ Some form_i64
unfolding byte_form
i64_form b e = rw e refl

f32_form : (b : ℕ) → b ≡ 0x43 → byte_form b ≡ Some (form_bytes 4)
unfolding byte_form
f32_form b e = rw e refl

f64_form : (b : ℕ) → b ≡ 0x44 → byte_form b ≡ Some (form_bytes 8)
unfolding byte_form
f64_form b e = rw e refl

v128_form : (n : ℕ) → n ≡ 12 → vector_form n ≡ Some (form_bytes 16)
unfolding vector_form
v128_form n e = rw e refl

-- what an initialiser may name by its scope
pub record HasScope (may : ItemIndex → Type 0) (scope : InitScope) : Type 0 where
  pub types : (n : ℕ) → n < scope.types → may (Types, n)
  pub funcs : (n : ℕ) → n < scope.functions → may (Funcs, n)
  pub globals : (n : ℕ) (t : GlobalType) → slice_get scope.globals n ≡ Some t → may (Globals, n)

module _ (may : ItemIndex → Type 0) where
  abbrev Named : ImmediatesValue → Type 0
  Named v = AllByRecursion may (instr_refs (record { opcode = Byte 0; immediates = v }))

  value_by : (k b : ℕ) (v : ImmediatesValue) → k ≤ 3 → b ≡ 0x41 + k → IsInstr (record { opcode = Byte b; immediates = v }) → Named v
  value_by zero b v h e i = let f = has_form (Byte b) v i form_i32 (i32_form b (omega (arith, e))) in subst Named (sym f.1) tt
  value_by (suc zero) b v h e i = let f = has_form (Byte b) v i form_i64 (i64_form b (omega (arith, e))) in subst Named (sym f.1) tt
  value_by (suc (suc zero)) b v h e i = let f = has_form (Byte b) v i (form_bytes 4) (f32_form b (omega (arith, e))) in subst Named (sym f.1) tt
  value_by (suc (suc (suc zero))) b v h e i = let f = has_form (Byte b) v i (form_bytes 8) (f64_form b (omega (arith, e))) in subst Named (sym f.1) tt
  value_by (suc (suc (suc (suc k)))) b v h e i = absurd (omega (arith, h))

  module _ (scope : InitScope) (s : HasScope may scope) where
    named_below : {P : Type 0} (a c : ValueClass) (n bound : ℕ) → (n < bound → P) → (if nat_lt n bound then Some a else None) ≡ Some c → P
    named_below {P} a c n bound there h = go (nat_lt n bound) refl h
      where
        go : (b : Bool) → nat_lt n bound ≡ b → (if b then Some a else None) ≡ Some c → P
        go true below e = there (ltb-true n bound below)
        go false below e = absurd cc

    ref_type_named : (t : ValType) (c : ValueClass) → class_named scope.types (WithRefType t) ≡ Some c → Named (WithRefType t)
    ref_type_named I32 c h = tt
    ref_type_named I64 c h = tt
    ref_type_named F32 c h = tt
    ref_type_named F64 c h = tt
    ref_type_named V128 c h = tt
    ref_type_named FuncRef c h = tt
    ref_type_named ExternRef c h = tt
    ref_type_named FuncRefNonNull c h = tt
    ref_type_named ExternRefNonNull c h = tt
    ref_type_named (TypeRef nullable n) c h = (named_below FuncClass c n scope.types (s.types n) h, tt)

    class_is_named : (v : ImmediatesValue) (c : ValueClass) → class_named scope.types v ≡ Some c → Named v
    class_is_named WithNone c h = absurd cc
    class_is_named (WithBlock b) c h = absurd cc
    class_is_named (WithIndex i) c h = absurd cc
    class_is_named (WithIndices i j) c h = absurd cc
    class_is_named (WithLabels ls d) c h = absurd cc
    class_is_named (WithValTypes ts) c h = absurd cc
    class_is_named (WithRefType t) c h = ref_type_named t c h
    class_is_named (WithMemArg m) c h = absurd cc
    class_is_named (WithMemArgLane m lane) c h = absurd cc
    class_is_named (WithI32 n) c h = absurd cc
    class_is_named (WithI64 n) c h = absurd cc
    class_is_named (WithBytes bytes) c h = absurd cc
    class_is_named (WithLane lane) c h = absurd cc

    null_named : (v : ImmediatesValue) (c : ValueClass) (b : Bool) → (if b then None else class_named scope.types v) ≡ Some c → Named v
    null_named v c true h = absurd cc
    null_named v c false h = class_is_named v c h

    global_named : (n : ℕ) (c : ValueClass) (o : Option GlobalType) → slice_get scope.globals n ≡ o
        → (o >>= λ g. if g.mutable then None else Some (class_of g.content_type)) ≡ Some c → may (Globals, n)
    global_named n c None at h = absurd cc
    global_named n c (Some g) at h = s.globals n g at

    -- where a value of a type is required
    module _ (wanted : ValType) where
      given_named : (b : ℕ) (v : ImmediatesValue) → IsInstr (record { opcode = Byte b; immediates = v }) → (o : Constant) → constant_byte b ≡ Some o
          → (c : ValueClass) → given_by scope wanted v o ≡ Some c → Named v
      given_named b v i (Value u) e c h =
          let from = value_from b u e in
          let to = value_to b u e in
          value_by (b - 0x41) b v (omega (arith, from, to)) (omega (arith, from)) i
      given_named b v i Null e c h = null_named v c (is_non_null wanted) h
      given_named b v i (Integer u) e c h = absurd cc
      given_named b v i Func e c h =
          let n = named_by (Byte b) v i (In Funcs) (func_form b (func_code b e)) in
          subst Named (sym n.1) (
            named_below FuncClass c n.0 scope.functions (s.funcs n.0)
                (subst (λ (w : ImmediatesValue). given_by scope wanted w Func ≡ Some c) n.1 h),
            tt,
          )
      given_named b v i Global e c h =
          let n = named_by (Byte b) v i (In Globals) (global_form b (global_code b e)) in
          subst Named (sym n.1) (
            global_named n.0 c (slice_get scope.globals n.0) refl
                (subst (λ (w : ImmediatesValue). given_by scope wanted w Global ≡ Some c) n.1 h),
            tt,
          )

      byte_named : (b : ℕ) (v : ImmediatesValue) → IsInstr (record { opcode = Byte b; immediates = v }) → (c : ValueClass) (o : Option Constant)
          → constant_byte b ≡ o → (o >>= given_by scope wanted v) ≡ Some c → Named v
      byte_named b v i c None e h = absurd cc
      byte_named b v i c (Some o) e h = given_named b v i o e c h

      vector_named : (n : ℕ) (v : ImmediatesValue) → IsInstr (record { opcode = Vector n; immediates = v }) → (c : ValueClass) (b : Bool) → (n == 12) ≡ b
          → ((if b then Some (Value V128) else None) >>= given_by scope wanted v) ≡ Some c → Named v
      vector_named n v i c true e h = let f = has_form (Vector n) v i (form_bytes 16) (v128_form n (eqb-true n 12 e)) in subst Named (sym f.1) tt
      vector_named n v i c false e h = absurd cc

      constant_named : (code : Opcode) (v : ImmediatesValue) → IsInstr (record { opcode = code; immediates = v }) → (c : ValueClass)
          → (constant_of code >>= given_by scope wanted v) ≡ Some c → Named v
      constant_named (Byte b) v i c h = byte_named b v i c (constant_byte b) refl h
      constant_named (Misc n) v i c h = absurd cc
      constant_named (Vector n) v i c h = vector_named n v i c (n == 12) refl h
      constant_named (Atomic n) v i c h = absurd cc

  integer_by : (b : ℕ) (v : ImmediatesValue) → IsInstr (record { opcode = Byte b; immediates = v }) → (c : ValueClass) (o : Option Constant)
      → constant_byte b ≡ o → (o >>= integer_class) ≡ Some c → Named v
  integer_by b v i c None e h = absurd cc
  integer_by b v i c (Some (Integer u)) e h = let f = has_form (Byte b) v i form_none (integer_form b (integer_from b u e) (integer_to b u e)) in
      subst Named (sym f) tt
  integer_by b v i c (Some (Value u)) e h = absurd cc
  integer_by b v i c (Some Null) e h = absurd cc
  integer_by b v i c (Some Func) e h = absurd cc
  integer_by b v i c (Some Global) e h = absurd cc

  no_integer : (c : ValueClass) (b : Bool) → ((if b then Some (Value V128) else None) >>= integer_class) ≡ Some c → ⊥
  no_integer c true h = absurd cc
  no_integer c false h = absurd cc

  integer_named : (code : Opcode) (v : ImmediatesValue) → IsInstr (record { opcode = code; immediates = v }) → (c : ValueClass)
      → integers_class code ≡ Some c → Named v
  integer_named (Byte b) v i c h = integer_by b v i c (constant_byte b) refl h
  integer_named (Misc n) v i c h = absurd cc
  integer_named (Vector n) v i c h = absurd (no_integer c (n == 12) h)
  integer_named (Atomic n) v i c h = absurd cc

-- operators that leave one value name what their scope has
pub leaves_named : {scope : InitScope} {t : ValType} {is : List InstrValue} (may : ItemIndex → Type 0) → HasScope may scope → LeavesOne scope t is → AllByRecursion IsInstr is → EachNamed may is
leaves_named {scope} {t} may s (alone i e) k = (constant_named may scope s t i.opcode i.immediates k.0 (class_of t) e, tt)
leaves_named {scope} {t} may s (joined xs ys i e a b) k =
    let rest = all-right IsInstr xs (ys ++ (i ∷ [])) k in
    all_joined (λ i. AllByRecursion may (instr_refs i)) xs (ys ++ (i ∷ [])) (leaves_named may s a (all-left IsInstr xs (ys ++ (i ∷ [])) k))
    (all_joined (λ i. AllByRecursion may (instr_refs i)) ys (i ∷ []) (leaves_named may s b (all-left IsInstr ys (i ∷ []) rest))
    (integer_named may i.opcode i.immediates (all-right IsInstr ys (i ∷ []) rest).0 (class_of t) e, tt))

-- so do initialisers

code_named : (may : ItemIndex → Type 0) (scope : InitScope) → HasScope may scope → (t : ValType) (bytes : List ℕ) (is : List InstrValue) → init_in bytes ≡ Some is → IsInitialiser is → IsTyped scope t bytes → AllByRecursion may (code_refs is)
code_named may scope s t bytes is found can typed =
    let same : typed.operators ≡ is = some_same typed.operators is (sym (init_found bytes typed.operators typed.has_operators) ∙ found) in
    let cut : is ≡ typed.front ++ (end_value ∷ []) = sym same ∙ typed.cut in
    let all = subst (AllByRecursion IsInstr) cut (recursion_from_All IsInstr is can.can_be_spelled) in
    subst (λ (z : List InstrValue). AllByRecursion may (code_refs z)) (sym cut) (all_named may (typed.front ++ (end_value ∷ []))
    (all_joined (λ i. AllByRecursion may (instr_refs i)) typed.front (end_value ∷ []) (leaves_named may s typed.leaves (all-left IsInstr typed.front (end_value ∷ []) all)) (tt, tt)))

init_named : (may : ItemIndex → Type 0) (scope : InitScope) → HasScope may scope → (t : ValType) (d : DefValue (List ℕ)) → HasInitialiser d → IsTypedDef scope t d → AllByRecursion may (def_refs init_refs (def_seen init_in d))
init_named may scope s t (imported m n) can typed = tt
init_named may scope s t (local bytes) can typed =
    let found : init_in bytes ≡ Some can.0 = init_found bytes can.0 can.1 in
    subst (λ (o : Option (List InstrValue)). AllByRecursion may (init_refs o)) (sym found) (code_named may scope s t bytes can.0 found can.2 typed)

init_coded : (d : DefValue (List ℕ)) → HasInitialiser d → IsTrue (is_code (def_seen init_in d))
init_coded (imported m n) can = refl
init_coded (local bytes) can = ap (λ (o : Option (List InstrValue)). is_some o) (init_found bytes can.0 can.1)

-- an item with those before it and after it
cut_at : {A : Type 0} (xs : List A) (n : ℕ) (x : A) → slice_get xs n ≡ Some x → (front : List A) × (back : List A) × (xs ≡ front ++ (x ∷ back))
cut_at [] n x e = absurd cc
cut_at (y ∷ xs) zero x e = let same : y ≡ x = cc e in ([], xs, ap (λ z. z ∷ xs) same)
cut_at (y ∷ xs) (suc n) x e = let r = cut_at xs n x e in (y ∷ r.0, r.1, ap (λ zs. y ∷ zs) r.2)

module _ (m : ModuleValue) (w : IsWritable m) (v : IsModule m) where
  initialiser_at : (n : ℕ) (g : GlobalValue) → slice_get m.globals n ≡ Some g → HasInitialiser g.def
  initialiser_at n g e = all_at (λ (g : GlobalValue). HasInitialiser g.def) m.globals n g (recursion_from_All (λ (g : GlobalValue). HasInitialiser g.def) m.globals w.initialisers) e

  pub global_coded : (n : ℕ) (g : GlobalValue) → slice_get m.globals n ≡ Some g → IsTrue (is_code (def_seen init_in g.def))
  global_coded n g e = init_coded g.def (initialiser_at n g e)

  init_there : (n : ℕ) (g : GlobalValue) → slice_get m.globals n ≡ Some g → AllByRecursion (There (decode m)) (def_refs init_refs (def_seen init_in g.def))
  init_there n g e =
      let c = cut_at m.globals n g e in
      let scope : InitScope = record { types = length m.types; functions = length m.funcs; globals = types_of c.0 } in
      init_named (λ y. IsTrue (is_in (decode m) y)) scope (record {
        types = λ k below. lt-ltb k (length (decode m).types) below;
        funcs = λ k below. let l = length-map m.funcs (item_seen body_in) in lt-ltb k (length (decode m).funcs) (omega (arith, l, below));
        globals = λ k t at.
            let below = slice_get_within (types_of c.0) k t at in
            let one = length-map c.0 (λ (g : GlobalValue). g.ty) in
            let two = ap length c.2 in
            let three = length-append c.0 (g ∷ c.1) in
            let four = length-map m.globals (item_seen init_in) in
            lt-ltb k (length (decode m).globals) (omega (arith, below, one, two, three, four));
      }) g.ty.content_type g.def (initialiser_at n g e) (v.initialised c.0 c.1 g c.2)

  pub global_names_there : (n : ℕ) (g : GlobalValue) → slice_get m.globals n ≡ Some g → AllByRecursion (There (decode m)) (global_refs (item_seen init_in g))
  global_names_there n g e =
      all_joined (There (decode m)) (val_type_refs (g.ty.content_type ∷ [])) (def_refs init_refs (def_seen init_in g.def)) (global_type_there m v n g e) (init_there n g e)
