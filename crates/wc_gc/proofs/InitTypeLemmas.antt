-- An initialiser under new indices leaves what it left.
use Rattle.std.proofs.Common.{◌≡◌, ℕ, ◌<◌, List, [], ◌∷◌, ◌++◌, refl, sym, ◌∙◌, ap, subst, Bool, true, false, arith, Option, Some, None, ltb-true}
use Rattle.std.specs.Prelude.{nat_lt, ◌==◌, if◌then◌else◌}
use Rattle.std.specs.List.{AllByRecursion, slice_get}
use Rattle.std.proofs.lemmas.Bool.{lt-ltb}
use Rattle.std.proofs.lemmas.Bool.Decides.{nat_tests}
use Rattle.std.proofs.lemmas.List.{map-append}
use Rattle.wc_read.specs.Options.{◌>>=◌}
use Rattle.wc_read.specs.Operators.{byte_form, form_of, ImmediatesValue, WithNone, WithBlock, WithIndex, WithIndices, WithLabels, WithValTypes, WithRefType, WithMemArg, WithMemArgLane, WithI32, WithI64, WithBytes, WithLane, InstrValue, index_of}
use Rattle.wc_read.specs.Inits.{constant_byte, constant_of}
use Rattle.wc_read.specs.InitTypes.{InitScope, class_of, is_non_null, class_named, global_value_class, given_by, LeavesOne, alone, joined}
use Rattle.wc_read.specs.Renumbering.{Renumbering, renumber_global_type, renumber_immediates, renumber_instr, renumber_val_type}
use Rattle.wc_read.specs.declared.types.ValType.{ValType}
use Rattle.wc_read.specs.declared.types.ValType.TheVariants.{I32, I64, F32, F64, V128, FuncRef, ExternRef, FuncRefNonNull, ExternRefNonNull, TypeRef}
use Rattle.wc_read.specs.declared.inits.ValueClass.{ValueClass}
use Rattle.wc_read.specs.declared.inits.ValueClass.TheVariants.{Func as FuncClass}
use Rattle.wc_read.specs.declared.types.GlobalType.{GlobalType}
use Rattle.wc_read.specs.declared.operators.Opcode.{Opcode}
use Rattle.wc_read.specs.declared.operators.Opcode.TheVariants.{Byte, Misc, Vector, Atomic}
use Rattle.wc_read.specs.declared.operators.Space.TheVariants.{Types, Funcs, Globals}
use Rattle.wc_read.specs.declared.operators.IndexKind.{IndexKind}
use Rattle.wc_read.specs.declared.operators.IndexKind.TheVariants.{In}
use Rattle.wc_read.specs.declared.operators.Form.{Form}
use Rattle.wc_read.specs.declared.operators.Form.TheVariants.{Index as form_index}
use Rattle.wc_read.specs.declared.inits.Constant.{Constant}
use Rattle.wc_read.specs.declared.inits.Constant.TheVariants.{Value, Null, Func, Global, Integer}
use Rattle.wc_read.proofs.OptionsLemmas.{some_same}
use Rattle.wc_write.specs.Values.{HasForm, IsInstr}
use Rattle.wc_read.specs.Decoded.{ItemIndex}
use Rattle.wc_read.specs.Entries.{instr_refs}
use Rattle.wc_gc.specs.Image.{renumber_code}

-- what an initialiser may name: each type and each function that it may name has an index of one in the new scope, and
-- each global that it may name the type there that it had, under the new indices
pub record Follows (may : ItemIndex → Type 0) (old after : InitScope) (new : Renumbering) : Type 0 where
  pub types : (n : ℕ) → may (Types, n) → n < old.types → new Types n < after.types
  pub funcs : (n : ℕ) → may (Funcs, n) → n < old.functions → new Funcs n < after.functions
  pub globals : (n : ℕ) (t : GlobalType) → may (Globals, n) → slice_get old.globals n ≡ Some t
      → slice_get after.globals (new Globals n) ≡ Some (renumber_global_type new t)

-- an operator that can be spelled, and names only such items
abbrev pub NamesOnly : (ItemIndex → Type 0) → InstrValue → Type 0
NamesOnly may i = AllByRecursion may (instr_refs i) × IsInstr i

-- which codes name a function and a global
pub func_code : (b : ℕ) → constant_byte b ≡ Some Func → b ≡ 0xd2
unfolding constant_byte
func_code b h = grind (arith, nat_tests)

pub global_code : (b : ℕ) → constant_byte b ≡ Some Global → b ≡ 0x23
unfolding constant_byte
global_code b h = grind (arith, nat_tests)

pub func_form : (b : ℕ) → b ≡ 0xd2 → byte_form b ≡ Some (form_index (In Funcs))
unfolding byte_form
func_form b e = rw e refl

pub global_form : (b : ℕ) → b ≡ 0x23 → byte_form b ≡ Some (form_index (In Globals))
unfolding byte_form
global_form b e = rw e refl

-- the immediates of a code that names an index
pub named_by : (code : Opcode) (v : ImmediatesValue) (i : IsInstr (record { opcode = code; immediates = v })) (kind : IndexKind) → form_of code ≡ Some (form_index kind)
    → (n : ℕ) × (v ≡ WithIndex (index_of kind n))
named_by code v i kind e =
    let same : i.form ≡ form_index kind = some_same i.form (form_index kind) (sym i.in_table ∙ e) in
    let h = subst (λ (f : Form). HasForm f v) same i.has_form in
    (h.0, h.1)

-- a value type under new indices keeps its class, and null if it has it

class_under : (new : Renumbering) (t : ValType) → class_of (renumber_val_type new t) ≡ class_of t
class_under new I32 = refl
class_under new I64 = refl
class_under new F32 = refl
class_under new F64 = refl
class_under new V128 = refl
class_under new FuncRef = refl
class_under new ExternRef = refl
class_under new FuncRefNonNull = refl
class_under new ExternRefNonNull = refl
class_under new (TypeRef nullable index) = refl

null_under : (new : Renumbering) (t : ValType) → is_non_null (renumber_val_type new t) ≡ is_non_null t
null_under new I32 = refl
null_under new I64 = refl
null_under new F32 = refl
null_under new F64 = refl
null_under new V128 = refl
null_under new FuncRef = refl
null_under new ExternRef = refl
null_under new FuncRefNonNull = refl
null_under new ExternRefNonNull = refl
null_under new (TypeRef nullable index) = refl

value_class_of : (new : Renumbering) (old after : List GlobalType) (n k : ℕ) (c : ValueClass)
    → ((g : GlobalType) → slice_get old n ≡ Some g → slice_get after k ≡ Some (renumber_global_type new g))
    → (o : Option GlobalType) → slice_get old n ≡ o → (o >>= λ g. if g.mutable then None else Some (class_of g.content_type)) ≡ Some c
    → global_value_class after k ≡ Some c
value_class_of new old after n k c h None e given = absurd cc
value_class_of new old after n k c h (Some g) e given =
    ap (λ (o : Option GlobalType). o >>= λ g. if g.mutable then None else Some (class_of g.content_type)) (h g e)
    ∙ (ap (λ (x : ValueClass). if g.mutable then None else Some x) (class_under new g.content_type) ∙ given)

-- what an index below a bound gives, an index that is below its own bound then gives too
given_below : (a c : ValueClass) (n bound n' bound' : ℕ) → (n < bound → n' < bound') → (if nat_lt n bound then Some a else None) ≡ Some c
    → (if nat_lt n' bound' then Some a else None) ≡ Some c
given_below a c n bound n' bound' below h = go (nat_lt n bound) refl h
  where
    go : (b : Bool) → nat_lt n bound ≡ b → (if b then Some a else None) ≡ Some c → (if nat_lt n' bound' then Some a else None) ≡ Some c
    go true under e = rw (lt-ltb n' bound' (below (ltb-true n bound under))) e
    go false under e = absurd cc

-- where a value of a type is required, and then one of that type under new indices

module _ (may : ItemIndex → Type 0) (old after : InitScope) (new : Renumbering) (f : Follows may old after new) (wanted : ValType) where
  abbrev wanted' : ValType
  wanted' = renumber_val_type new wanted

  abbrev MayName : ImmediatesValue → Type 0
  MayName v = AllByRecursion may (instr_refs (record { opcode = Byte 0; immediates = v }))

  ref_type_stays : (t : ValType) → MayName (WithRefType t) → (c : ValueClass) → class_named old.types (WithRefType t) ≡ Some c
      → class_named after.types (WithRefType (renumber_val_type new t)) ≡ Some c
  ref_type_stays I32 k c h = h
  ref_type_stays I64 k c h = h
  ref_type_stays F32 k c h = h
  ref_type_stays F64 k c h = h
  ref_type_stays V128 k c h = h
  ref_type_stays FuncRef k c h = h
  ref_type_stays ExternRef k c h = h
  ref_type_stays FuncRefNonNull k c h = h
  ref_type_stays ExternRefNonNull k c h = h
  ref_type_stays (TypeRef nullable n) k c h = given_below FuncClass c n old.types (new Types n) after.types (f.types n k.0) h

  class_stays : (v : ImmediatesValue) → MayName v → (c : ValueClass) → class_named old.types v ≡ Some c
      → class_named after.types (renumber_immediates new v) ≡ Some c
  class_stays WithNone k c h = absurd cc
  class_stays (WithBlock t) k c h = absurd cc
  class_stays (WithIndex i) k c h = absurd cc
  class_stays (WithIndices i j) k c h = absurd cc
  class_stays (WithLabels ls d) k c h = absurd cc
  class_stays (WithValTypes ts) k c h = absurd cc
  class_stays (WithRefType t) k c h = ref_type_stays t k c h
  class_stays (WithMemArg m) k c h = absurd cc
  class_stays (WithMemArgLane m lane) k c h = absurd cc
  class_stays (WithI32 n) k c h = absurd cc
  class_stays (WithI64 n) k c h = absurd cc
  class_stays (WithBytes bytes) k c h = absurd cc
  class_stays (WithLane lane) k c h = absurd cc

  null_stays : (v : ImmediatesValue) → MayName v → (c : ValueClass) (b : Bool) → (if b then None else class_named old.types v) ≡ Some c
      → (if b then None else class_named after.types (renumber_immediates new v)) ≡ Some c
  null_stays v k c true h = absurd cc
  null_stays v k c false h = class_stays v k c h

  func_given : (n : ℕ) (c : ValueClass) → may (Funcs, n) → given_by old wanted (WithIndex (index_of (In Funcs) n)) Func ≡ Some c
      → given_by after wanted' (renumber_immediates new (WithIndex (index_of (In Funcs) n))) Func ≡ Some c
  func_given n c k h = given_below FuncClass c n old.functions (new Funcs n) after.functions (f.funcs n k) h

  given_stays : (b : ℕ) (v : ImmediatesValue) → IsInstr (record { opcode = Byte b; immediates = v }) → MayName v
      → (o : Constant) → constant_byte b ≡ Some o → (c : ValueClass) → given_by old wanted v o ≡ Some c
      → given_by after wanted' (renumber_immediates new v) o ≡ Some c
  given_stays b v i k (Value u) e c h = h
  given_stays b v i k Null e c h =
      subst (λ (z : Bool). (if z then None else class_named after.types (renumber_immediates new v)) ≡ Some c) (sym (null_under new wanted))
      (null_stays v k c (is_non_null wanted) h)
  given_stays b v i k (Integer u) e c h = h
  given_stays b v i k Func e c h =
      let n = named_by (Byte b) v i (In Funcs) (func_form b (func_code b e)) in
      subst (λ (w : ImmediatesValue). given_by after wanted' (renumber_immediates new w) Func ≡ Some c) (sym n.1)
      (func_given n.0 c (subst MayName n.1 k).0 (subst (λ (w : ImmediatesValue). given_by old wanted w Func ≡ Some c) n.1 h))
  given_stays b v i k Global e c h =
      let n = named_by (Byte b) v i (In Globals) (global_form b (global_code b e)) in
      subst (λ (w : ImmediatesValue). given_by after wanted' (renumber_immediates new w) Global ≡ Some c) (sym n.1)
      (value_class_of new old.globals after.globals n.0 (new Globals n.0) c (λ g at. f.globals n.0 g (subst MayName n.1 k).0 at)
      (slice_get old.globals n.0) refl
      (subst (λ (w : ImmediatesValue). given_by old wanted w Global ≡ Some c) n.1 h))

  byte_stays : (b : ℕ) (v : ImmediatesValue) → IsInstr (record { opcode = Byte b; immediates = v }) → MayName v
      → (c : ValueClass) (o : Option Constant) → constant_byte b ≡ o → (o >>= given_by old wanted v) ≡ Some c
      → (o >>= given_by after wanted' (renumber_immediates new v)) ≡ Some c
  byte_stays b v i k c None e h = absurd cc
  byte_stays b v i k c (Some o) e h = given_stays b v i k o e c h

  vector_stays : (v : ImmediatesValue) (c : ValueClass) (b : Bool)
      → ((if b then Some (Value V128) else None) >>= given_by old wanted v) ≡ Some c
      → ((if b then Some (Value V128) else None) >>= given_by after wanted' (renumber_immediates new v)) ≡ Some c
  vector_stays v c true h = h
  vector_stays v c false h = absurd cc

  constant_class_stays : (code : Opcode) (v : ImmediatesValue) → IsInstr (record { opcode = code; immediates = v }) → MayName v
      → (c : ValueClass) → (constant_of code >>= given_by old wanted v) ≡ Some c
      → (constant_of code >>= given_by after wanted' (renumber_immediates new v)) ≡ Some c
  constant_class_stays (Byte b) v i k c h = byte_stays b v i k c (constant_byte b) refl h
  constant_class_stays (Misc n) v i k c h = absurd cc
  constant_class_stays (Vector n) v i k c h = vector_stays v c (n == 12) h
  constant_class_stays (Atomic n) v i k c h = absurd cc

pub all-left : {A : Type 0} (P : A → Type 0) (xs ys : List A) → AllByRecursion P (xs ++ ys) → AllByRecursion P xs
all-left P [] ys h = tt
all-left P (x ∷ xs) ys h = (h.0, all-left P xs ys h.1)

pub all-right : {A : Type 0} (P : A → Type 0) (xs ys : List A) → AllByRecursion P (xs ++ ys) → AllByRecursion P ys
all-right P [] ys h = h
all-right P (x ∷ xs) ys h = all-right P xs ys h.1

-- it leaves one value that fits its type, where what it may name follows
pub leaves_stays : {old : InitScope} {t : ValType} {is : List InstrValue} (may : ItemIndex → Type 0) (after : InitScope) (new : Renumbering) → Follows may old after new → LeavesOne old t is
    → AllByRecursion (NamesOnly may) is → LeavesOne after (renumber_val_type new t) (renumber_code new is)
leaves_stays {old} {t} may after new f (alone i e) k = alone (renumber_instr new i)
    (constant_class_stays may old after new f t i.opcode i.immediates k.0.1 k.0.0 (class_of t) e ∙ ap Some (sym (class_under new t)))
leaves_stays {old} {t} may after new f (joined xs ys i e a b) k =
    subst (λ (z : List InstrValue). LeavesOne after (renumber_val_type new t) z)
    (sym (map-append (renumber_instr new) xs (ys ++ (i ∷ []))
    ∙ ap (λ (z : List InstrValue). renumber_code new xs ++ z) (map-append (renumber_instr new) ys (i ∷ []))))
    (joined (renumber_code new xs) (renumber_code new ys) (renumber_instr new i) (e ∙ ap Some (sym (class_under new t)))
    (leaves_stays may after new f a (all-left (NamesOnly may) xs (ys ++ (i ∷ [])) k))
    (leaves_stays may after new f b (all-left (NamesOnly may) ys (i ∷ []) (all-right (NamesOnly may) xs (ys ++ (i ∷ [])) k))))
