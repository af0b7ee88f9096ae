-- An initialiser leaves one value exactly where counting its values of that type ends at one.
use Rattle.std.proofs.Common.{◌≡◌, ℕ, zero, suc, ◌+◌, ◌-◌, ◌≤◌, List, [], ◌∷◌, ◌++◌, Bool, true, false, Option, Some, None, refl, sym, ◌∙◌, ap, subst}
use Rattle.std.proofs.Common.{append_assoc, append-nil, arith, eqb-true, eq-eqb}
use Rattle.std.specs.Prelude.{◌&&◌, ◌==◌, nat_le, is_some, if◌then◌else◌}
use Rattle.std.proofs.lemmas.Bool.{leb-true, le-leb, and_parts}
use Rattle.wc_read.specs.Options.{◌>>=◌}
use Rattle.wc_read.specs.Operators.{ImmediatesValue, InstrValue}
use Rattle.wc_read.specs.Inits.{constant_of, is_constant, AreConstant}
use Rattle.wc_read.specs.InitTypes.{InitScope, class_of, given_by, constant_class, integer_class, integers_class, LeavesOne, alone, joined}
use Rattle.wc_read.specs.Reading.InitTypes.{class_code, is_same, one_more, depth_after_constant, next_depth}
use Rattle.wc_read.specs.declared.types.ValType.{ValType}
use Rattle.wc_read.specs.declared.inits.ValueClass.{ValueClass}
use Rattle.wc_read.specs.declared.inits.ValueClass.TheVariants.{I32 as I32Class, I64 as I64Class, F32 as F32Class, F64 as F64Class, V128 as V128Class}
use Rattle.wc_read.specs.declared.inits.ValueClass.TheVariants.{Func as FuncClass, Extern as ExternClass}
use Rattle.wc_read.specs.declared.inits.Constant.{Constant}
use Rattle.wc_read.specs.declared.inits.Constant.TheVariants.{Value, Null, Func, Global, Integer}
use Rattle.wc_read.proofs.OptionsLemmas.{some_same, some_none, bind_some, bind_none}
use Rattle.wc_read.proofs.MeetsLemmas.{bind_is, if_is}

-- how many values of a type there are after several operators
unfoldable pub depth_after : InitScope → ValType → ℕ → List InstrValue → Option ℕ
depth_after scope t depth [] = Some depth
depth_after scope t depth (i ∷ is) = next_depth scope t depth i >>= λ next. depth_after scope t next is

-- the class that has a number

abbrev class_at : ℕ → Option ValueClass
class_at n =
    if n == 0 then Some I32Class else (if n == 1 then Some I64Class else (if n == 2 then Some F32Class else (if n == 3 then Some F64Class
    else (if n == 4 then Some V128Class else (if n == 5 then Some FuncClass else (if n == 6 then Some ExternClass else None))))))

class_there : (c : ValueClass) → class_at (class_code c) ≡ Some c
class_there I32Class = refl
class_there I64Class = refl
class_there F32Class = refl
class_there F64Class = refl
class_there V128Class = refl
class_there FuncClass = refl
class_there ExternClass = refl

same_class : (a b : ValueClass) → is_same a b ≡ true → a ≡ b
same_class a b e = some_same a b (sym (class_there a) ∙ ap class_at (eqb-true (class_code a) (class_code b) e) ∙ class_there b)

class_same : (c : ValueClass) → is_same c c ≡ true
class_same c = eq-eqb (class_code c) (class_code c) refl

-- a flag that is true exactly where two classes are the same
pub same_classes : (a b : ValueClass) (flag : Bool) → (flag ≡ true → a ≡ b) → (flag ≡ false → a ≡ b → ⊥) → flag ≡ is_same a b
same_classes a b true equal differ = sym (subst (λ (c : ValueClass). is_same a c ≡ true) (equal refl) (class_same a))
same_classes a b false equal differ = by (is_same a b) refl
  where
    by : (test : Bool) → is_same a b ≡ test → false ≡ is_same a b
    by true t = absurd (differ refl (same_class a b t))
    by false t = sym t

-- such operators are constant

some_constant : {A : Type 0} (o : Option Constant) (f : Constant → Option A) (x : A) → (o >>= f) ≡ Some x → is_some o ≡ true
some_constant None f x e = some_none x (sym e)
some_constant (Some c) f x e = refl

constant_join : (xs ys : List InstrValue) → AreConstant xs → AreConstant ys → AreConstant (xs ++ ys)
constant_join [] ys a b = b
constant_join (x ∷ xs) ys a b = (a.0, constant_join xs ys a.1 b)

pub leaves_constant : {scope : InitScope} {t : ValType} {is : List InstrValue} → LeavesOne scope t is → AreConstant is
leaves_constant {scope} {t} (alone i e) = (some_constant (constant_of i.opcode) (given_by scope t i.immediates) (class_of t) e, tt)
leaves_constant {scope} {t} (joined xs ys i e a b) =
    constant_join xs (ys ++ (i ∷ [])) (leaves_constant a)
    (constant_join ys (i ∷ []) (leaves_constant b) (some_constant (constant_of i.opcode) integer_class (class_of t) e, tt))

module _ (scope : InitScope) (t : ValType) where
  abbrev wanted : ValueClass
  wanted = class_of t

  one_given : (d : ℕ) (o : Option ValueClass) → o ≡ Some wanted → (o >>= one_more wanted d) ≡ Some (d + 1)
  one_given d o e = bind_some o (one_more wanted d) wanted e ∙ rw (class_same wanted) refl

  after_alone : (d : ℕ) (v : ImmediatesValue) (c : Constant) → given_by scope t v c ≡ Some wanted → depth_after_constant scope t d v c ≡ Some (d + 1)
  after_alone d v (Value u) e = one_given d (Some (class_of u)) e
  after_alone d v Null e = one_given d _ e
  after_alone d v Func e = one_given d _ e
  after_alone d v Global e = one_given d _ e
  after_alone d v (Integer u) e = some_none wanted (sym e)

  next_alone : (d : ℕ) (i : InstrValue) → constant_class scope t i ≡ Some wanted → next_depth scope t d i ≡ Some (d + 1)
  unfolding next_depth
  next_alone d i e =
      let s = bind_is (constant_of i.opcode) (given_by scope t i.immediates) wanted e in
      bind_some (constant_of i.opcode) (depth_after_constant scope t d i.immediates) s.0 s.1 ∙ after_alone d i.immediates s.0 s.2

  after_integer : (d : ℕ) (v : ImmediatesValue) (c : Constant) → integer_class c ≡ Some wanted → depth_after_constant scope t (suc (suc d)) v c ≡ Some (suc d)
  after_integer d v (Integer u) e = rw (some_same (class_of u) wanted e, class_same wanted, le-leb 2 (suc (suc d)) (omega arith))
      (let less : suc (suc d) - 1 ≡ suc d = omega arith in ap Some less)
  after_integer d v (Value u) e = some_none wanted (sym e)
  after_integer d v Null e = some_none wanted (sym e)
  after_integer d v Func e = some_none wanted (sym e)
  after_integer d v Global e = some_none wanted (sym e)

  next_integer : (d : ℕ) (i : InstrValue) → integers_class i.opcode ≡ Some wanted → next_depth scope t (suc (suc d)) i ≡ Some (suc d)
  unfolding next_depth
  next_integer d i e =
      let s = bind_is (constant_of i.opcode) integer_class wanted e in
      bind_some (constant_of i.opcode) (depth_after_constant scope t (suc (suc d)) i.immediates) s.0 s.1 ∙ after_integer d i.immediates s.0 s.2

  pub depth_more : (d e : ℕ) (i : InstrValue) (is : List InstrValue) → next_depth scope t d i ≡ Some e
      → depth_after scope t d (i ∷ is) ≡ depth_after scope t e is
  unfolding depth_after
  depth_more d e i is next = bind_some (next_depth scope t d i) (λ next. depth_after scope t next is) e next

  pub depth_fails : (d : ℕ) (i : InstrValue) (is : List InstrValue) → next_depth scope t d i ≡ None → depth_after scope t d (i ∷ is) ≡ None
  unfolding depth_after
  depth_fails d i is none = bind_none (next_depth scope t d i) (λ next. depth_after scope t next is) none

  pub depth_constant : (d e : ℕ) (i : InstrValue) (is : List InstrValue) → depth_after scope t d (i ∷ is) ≡ Some e → is_constant i.opcode ≡ true
  unfolding depth_after next_depth
  depth_constant d e i is all =
      let s = bind_is (next_depth scope t d i) (λ next. depth_after scope t next is) e all in
      some_constant (constant_of i.opcode) (depth_after_constant scope t d i.immediates) s.0 s.1

  alone_bound : (d e : ℕ) (o : Option ValueClass) → (o >>= one_more wanted d) ≡ Some e → e ≤ suc d
  alone_bound d e o is = let g = bind_is o (one_more wanted d) e is in let p = if_is (is_same g.0 wanted) (d + 1) e g.2 in omega (arith, p.1)

  after_bound : (d e : ℕ) (v : ImmediatesValue) (c : Constant) → depth_after_constant scope t d v c ≡ Some e → e ≤ suc d
  after_bound d e v (Value u) is = alone_bound d e (Some (class_of u)) is
  after_bound d e v Null is = alone_bound d e (given_by scope t v Null) is
  after_bound d e v Func is = alone_bound d e (given_by scope t v Func) is
  after_bound d e v Global is = alone_bound d e (given_by scope t v Global) is
  after_bound d e v (Integer u) is = let p = if_is (is_same (class_of u) wanted && nat_le 2 d) (d - 1) e is in omega (arith, p.1)

  -- an operator leaves one value more at most
  pub depth_bound : (d e : ℕ) (i : InstrValue) → next_depth scope t d i ≡ Some e → e ≤ suc d
  unfolding next_depth
  depth_bound d e i is = let s = bind_is (constant_of i.opcode) (depth_after_constant scope t d i.immediates) e is in after_bound d e i.immediates s.0 s.2

  pub depth_none : (d e : ℕ) → depth_after scope t d [] ≡ Some e → d ≡ e
  unfolding depth_after
  depth_none d e is = some_same d e is

  pub depth_same : (d : ℕ) → depth_after scope t d [] ≡ Some d
  unfolding depth_after
  depth_same d = refl

  -- one value more before other operators
  depth_after_leaving : (xs : List InstrValue) → LeavesOne scope t xs → (d : ℕ) (others : List InstrValue)
      → depth_after scope t d (xs ++ others) ≡ depth_after scope t (suc d) others
  depth_after_leaving _ (alone i e) d others = let s : d + 1 ≡ suc d = omega arith in depth_more d (suc d) i others (next_alone d i e ∙ ap Some s)
  depth_after_leaving _ (joined xs ys i is a b) d others =
      let cut : (xs ++ (ys ++ (i ∷ []))) ++ others ≡ xs ++ (ys ++ (i ∷ others)) = append_assoc xs (ys ++ (i ∷ [])) others
      ∙ ap (λ (r : List InstrValue). xs ++ r) (append_assoc ys (i ∷ []) others) in
      ap (depth_after scope t d) cut ∙ depth_after_leaving xs a d (ys ++ (i ∷ others)) ∙ depth_after_leaving ys b (suc d) (i ∷ others)
      ∙ depth_more (suc (suc d)) (suc d) i others (next_integer d i is)

  -- so many values, one after another
  abbrev Blocks : ℕ → List InstrValue → Type 0
  Blocks zero front = front ≡ []
  Blocks (suc n) front = (xs ys : List InstrValue) × (front ≡ xs ++ ys) × Blocks n xs × LeavesOne scope t ys

  block_alone : (d e : ℕ) (front : List InstrValue) (i : InstrValue) → Blocks d front → (constant_class scope t i >>= one_more wanted d) ≡ Some e
      → Blocks e (front ++ (i ∷ []))
  block_alone d e front i b is =
      let g = bind_is (constant_class scope t i) (one_more wanted d) e is in
      let p = if_is (is_same g.0 wanted) (d + 1) e g.2 in
      let s : suc d ≡ e = omega (arith, p.1) in
      subst (λ (n : ℕ). Blocks n (front ++ (i ∷ []))) s (front, i ∷ [], refl, b, alone i (g.1 ∙ ap Some (same_class g.0 wanted p.0)))

  block_integer : (d e : ℕ) (front : List InstrValue) (i : InstrValue) (u : ValueClass) → integers_class i.opcode ≡ Some u → Blocks d front
      → (if is_same u wanted && nat_le 2 d then Some (d - 1) else None) ≡ Some e → Blocks e (front ++ (i ∷ []))
  block_integer zero e front i u of b is =
      let p = if_is (is_same u wanted && nat_le 2 zero) (zero - 1) e is in
      absurd (omega (arith, leb-true 2 zero (and_parts _ _ p.0).1))
  block_integer (suc zero) e front i u of b is =
      let p = if_is (is_same u wanted && nat_le 2 (suc zero)) (suc zero - 1) e is in
      absurd (omega (arith, leb-true 2 (suc zero) (and_parts _ _ p.0).1))
  block_integer (suc (suc n)) e front i u of b is =
      let p = if_is (is_same u wanted && nat_le 2 (suc (suc n))) (suc (suc n) - 1) e is in
      let s : suc n ≡ e = omega (arith, p.1) in
      let c = b.3 in
      let cut : front ++ (i ∷ []) ≡ c.0 ++ (c.1 ++ (b.1 ++ (i ∷ []))) =
      ap (λ (r : List InstrValue). r ++ (i ∷ [])) b.2 ∙ append_assoc b.0 b.1 (i ∷ []) ∙ ap (λ (r : List InstrValue). r ++ (b.1 ++ (i ∷ []))) c.2
      ∙ append_assoc c.0 c.1 (b.1 ++ (i ∷ [])) in
      let same : u ≡ wanted = same_class u wanted (and_parts (is_same u wanted) (nat_le 2 (suc (suc n))) p.0).0 in
      subst (λ (m : ℕ). Blocks m (front ++ (i ∷ []))) s (c.0, c.1 ++ (b.1 ++ (i ∷ [])), cut, c.3, joined c.1 b.1 i (of ∙ ap Some same) c.4 b.4)

  block_after : (d e : ℕ) (front : List InstrValue) (i : InstrValue) (c : Constant) → constant_of i.opcode ≡ Some c → Blocks d front
      → depth_after_constant scope t d i.immediates c ≡ Some e → Blocks e (front ++ (i ∷ []))
  block_after d e front i (Integer u) of b is = block_integer d e front i (class_of u) (bind_some (constant_of i.opcode) integer_class (Integer u) of) b is
  block_after d e front i (Value u) of b is =
      block_alone d e front i b (ap (λ o. o >>= one_more wanted d) (bind_some (constant_of i.opcode) (given_by scope t i.immediates) (Value u) of) ∙ is)
  block_after d e front i Null of b is =
      block_alone d e front i b (ap (λ o. o >>= one_more wanted d) (bind_some (constant_of i.opcode) (given_by scope t i.immediates) Null of) ∙ is)
  block_after d e front i Func of b is =
      block_alone d e front i b (ap (λ o. o >>= one_more wanted d) (bind_some (constant_of i.opcode) (given_by scope t i.immediates) Func of) ∙ is)
  block_after d e front i Global of b is =
      block_alone d e front i b (ap (λ o. o >>= one_more wanted d) (bind_some (constant_of i.opcode) (given_by scope t i.immediates) Global of) ∙ is)

  block_step : (d e : ℕ) (front : List InstrValue) (i : InstrValue) → Blocks d front → next_depth scope t d i ≡ Some e → Blocks e (front ++ (i ∷ []))
  unfolding next_depth
  block_step d e front i b is =
      let s = bind_is (constant_of i.opcode) (depth_after_constant scope t d i.immediates) e is in
      block_after d e front i s.0 s.1 b s.2

  blocks_after : (is : List InstrValue) (d e : ℕ) (front : List InstrValue) → Blocks d front → depth_after scope t d is ≡ Some e → Blocks e (front ++ is)
  unfolding depth_after
  blocks_after [] d e front b is = rw append-nil (subst (λ (n : ℕ). Blocks n front) (some_same d e is) b)
  blocks_after (i ∷ is) d e front b all =
      let s = bind_is (next_depth scope t d i) (λ next. depth_after scope t next is) e all in
      let r = blocks_after is s.0 e (front ++ (i ∷ [])) (block_step d s.0 front i b s.1) s.2 in
      rw append_assoc at r

  pub one_from_depth : (is : List InstrValue) → depth_after scope t 0 is ≡ Some 1 → LeavesOne scope t is
  one_from_depth is e =
      let b = blocks_after is 0 1 [] refl e in
      let cut : b.1 ≡ is = sym (b.2 ∙ ap (λ (r : List InstrValue). r ++ b.1) b.3) in
      subst (λ (xs : List InstrValue). LeavesOne scope t xs) cut b.4

  pub depth_from_one : (is : List InstrValue) → LeavesOne scope t is → depth_after scope t 0 is ≡ Some 1
  unfolding depth_after
  depth_from_one is g = ap (depth_after scope t 0) (sym (append-nil is)) ∙ depth_after_leaving is g 0 []
