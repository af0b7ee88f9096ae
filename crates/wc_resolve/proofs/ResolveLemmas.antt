-- The tables of a `Resolve`, from the checks of its parts.
use Rattle.std.proofs.Common.{◌≡◌, ◌↔◌, ℕ, ◌<◌, Bool, IsTrue, List, map, length, Result, Ok, Err, sym, ap, ◌∙◌, subst}
use Rattle.std.specs.Prelude.{IfOk}
use Rattle.std.specs.List.{Contains}
use Rattle.std.proofs.lemmas.List.{length-map}
use Rattle.wc_resolve.specs.declared.types.TypeDef.{TypeDef}
use Rattle.wc_resolve.specs.Validate.{IsOrder}
use Rattle.wc_resolve.specs.Ranges.{AreIdsInRange, IsFunctionIn}
use Rattle.wc_resolve.specs.Views.{FunctionView, TypeView, type_view}
use Rattle.wc_resolve.specs.Kinds.{ResolveView, HasCycle, IsChildrenFirst, SignatureHasOnly, children}
use Rattle.wc_resolve.specs.WellFormed.{IsFree, IsUsable}
use Rattle.wc_resolve.proofs.AcyclicLemmas.{acyclic, children_within, ids_of_types}

pub no_cycle : (types : List TypeView) (order : List ℕ) → IsOrder types order → HasCycle types → ⊥
no_cycle types order o = acyclic types order o.first o.all

pub types_within : (r : ResolveView) (types ds : List TypeDef) → ds ≡ types → r.types ≡ map type_view types → AreIdsInRange r → (x c : ℕ) → Contains (children (map type_view ds) x) c → c < length ds
types_within r types ds e f ids x c h =
    let P : List TypeDef → Type 0 = λ z. Contains (children (map type_view z) x) c in
    let Q : List TypeView → Type 0 = λ z. Contains (children z x) c in
    let viewed : Q r.types = subst Q (sym f) (subst P e h) in
    let small : c < length r.types = children_within r (ids_of_types r ids) x c viewed in
    let len : length r.types ≡ length ds = ap (λ (z : List TypeView). length z) f ∙ length-map types type_view ∙ ap (λ (z : List TypeDef). length z) (sym e) in
    subst (λ (n : ℕ). c < n) len small

pub order_made : {O E : Type 0} (r : Result O E) (items : O → List ℕ) (types ds : List TypeDef) → ds ≡ types
    → IfOk r (λ o. IsChildrenFirst (children (map type_view ds)) (items o)) → IfOk r (λ o. (x : ℕ) → Contains (items o) x → x < length ds)
    → IfOk r (λ o. (x : ℕ) → x < length ds → Contains (items o) x) → IfOk r (λ o. IsOrder (map type_view types) (items o))
order_made (Ok o) items types ds e first within all =
    let len : length ds ≡ length (map type_view types) = ap (λ (z : List TypeDef). length z) e ∙ sym (length-map types type_view) in
    record {
      first = subst (λ (z : List TypeDef). IsChildrenFirst (children (map type_view z)) (items o)) e first;
      within = λ x h. subst (λ (n : ℕ). x < n) len (within x h);
      all = λ x h. all x (subst (λ (n : ℕ). x < n) (sym len) h);
    }
order_made (Err f) items types ds e first within all = tt

pub usable : (r : ResolveView) (types ds : List TypeDef) (f : FunctionView) (b : Bool) → ds ≡ types → r.types ≡ map type_view types
    → IsTrue b ↔ (IsFunctionIn (length ds) f × SignatureHasOnly (IsFree (map type_view ds)) f) → IsTrue b ↔ IsUsable r f
usable r types ds f b e g h =
    let same : map type_view ds ≡ r.types = ap (λ (z : List TypeDef). map type_view z) e ∙ sym g in
    let len : length ds ≡ length r.types = sym (length-map ds type_view) ∙ ap (λ (z : List TypeView). length z) same in
    let h2 : IsTrue b ↔ (IsFunctionIn (length r.types) f × SignatureHasOnly (IsFree (map type_view ds)) f) = subst (λ (n : ℕ). IsTrue b ↔ (IsFunctionIn n f × SignatureHasOnly (IsFree (map type_view ds)) f)) len h in
    subst (λ (z : List TypeView). IsTrue b ↔ (IsFunctionIn (length r.types) f × SignatureHasOnly (IsFree z) f)) same h2
