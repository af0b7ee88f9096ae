-- Function types by their parameters and results.
use Rattle.std.proofs.Common.{◌≡◌, true, false, List, Some, refl, subst, ap, eqb-true, eq-eqb}
use Rattle.std.specs.Bool.{Decides}
use Rattle.wc_read.specs.declared.types.ValType.{ValType}
use Rattle.wc_read.specs.declared.types.ValType.TheVariants.{I32, I64, F32, F64, V128, FuncRef, ExternRef, FuncRefNonNull, ExternRefNonNull, TypeRef}
use Rattle.wc_read.specs.contracts.types.ValTypePartialEq.TheImpl.{eq-value as val_eq}
use Rattle.wc_read.specs.Types.{FuncTypeValue}
use Rattle.wc_names.specs.Builtins.{signature}

val_from : (a b : ValType) → val_eq.it a b ≡ true → a ≡ b
val_from I32 I32 h = refl
val_from I64 I64 h = refl
val_from F32 F32 h = refl
val_from F64 F64 h = refl
val_from V128 V128 h = refl
val_from FuncRef FuncRef h = refl
val_from ExternRef ExternRef h = refl
val_from FuncRefNonNull FuncRefNonNull h = refl
val_from ExternRefNonNull ExternRefNonNull h = refl
val_from (TypeRef true i) (TypeRef true j) h = ap (λ n. TypeRef true n) (eqb-true i j h)
val_from (TypeRef false i) (TypeRef false j) h = ap (λ n. TypeRef false n) (eqb-true i j h)
val_from a b h = absurd (let bad : ⊥ = cc h in bad)

val_self : (a : ValType) → val_eq.it a a ≡ true
val_self I32 = refl
val_self I64 = refl
val_self F32 = refl
val_self F64 = refl
val_self V128 = refl
val_self FuncRef = refl
val_self ExternRef = refl
val_self FuncRefNonNull = refl
val_self ExternRefNonNull = refl
val_self (TypeRef true i) = eq-eqb i i refl
val_self (TypeRef false i) = eq-eqb i i refl

-- `==` of value types decides equality
pub vals_law : (a b : ValType) → Decides (val_eq.it a b) (a ≡ b)
vals_law a b = (val_from a b, λ e. subst (λ z. val_eq.it a z ≡ true) e (val_self a))

pub both_from : (t : FuncTypeValue) (ps rs : List ValType) → t.params ≡ ps → t.results ≡ rs → t ≡ signature ps rs
both_from t ps rs p r = at t.params t.results ps rs p r where
  at : (a b c d : List ValType) → a ≡ c → b ≡ d → signature a b ≡ signature c d
  at a b c d e f = cc (e, f)

pub params_are : (t : FuncTypeValue) (ps rs : List ValType) → t ≡ signature ps rs → t.params ≡ ps
params_are t ps rs e = subst (λ z. t.params ≡ z.params) e refl

pub results_are : (t : FuncTypeValue) (ps rs : List ValType) → t ≡ signature ps rs → t.results ≡ rs
results_are t ps rs e = subst (λ z. t.results ≡ z.results) e refl

pub same_type : {t u : FuncTypeValue} → Some t ≡ Some u → t ≡ u
same_type e = cc e

pub same_some : {t u : FuncTypeValue} → t ≡ u → Some t ≡ Some u
same_some e = ap (λ z. Some z) e
