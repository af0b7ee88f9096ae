-- Modules that are refused, and what that is about.
use Rattle.std.proofs.Common.{◌≡◌, IfErr, IfOk, Option, Some, None, OnOk, Result, Ok, Err, sym, subst, ◌∙◌, ℕ, List, refl, inl}
use Rattle.std.specs.Option.{option_map}
use Rattle.std.specs.Result.{IsErrAnd}
use Rattle.wc_read.specs.declared.fault.ReadFault.{ReadFault}
use Rattle.wc_read.specs.declared.place.ReadPlace.{ReadPlace}
use Rattle.wc_read.specs.Place.{IsPlaced}
use Rattle.wc_texts.specs.declared.refused.Refused.{Refused}
use Rattle.wc_validate.specs.Fault.{of_read}
use Rattle.wc_validate.specs.declared.fault.ValidateFault.{ValidateFault}
use Rattle.wc_validate.specs.declared.fault.ValidateFault.TheVariants.{Memory}
use Rattle.wc_validate.specs.declared.place.Place.{Place}
use Rattle.wc_validate.specs.Explain.{IsPlace, PlaceView, place_view}
use Rattle.wc_validate.specs.Private.ValidationInputs.{IsWithoutPlace}
use Rattle.wc_validate.specs.Refused.{HasNoPlace, IsMemoryRefusal, IsPlaceOrNone, IsReadRefusal, IsRefusedAt, RefusedModule, bytes_place}
use Rattle.wc_validate.specs.Validate.{IsValidateCause, ValidationInput}

-- the same place by another rule
pub placed_as : (P Q : ValidateFault → PlaceView → Type 0) (f : ValidateFault) (o : Option Place) → ((p : PlaceView) → P f p → Q f p) → IsPlaceOrNone P f o
    → IsPlaceOrNone Q f o
placed_as P Q f None k h = h
placed_as P Q f (Some p) k h = k (place_view p) h

pub refused_as : (P Q : ValidateFault → PlaceView → Type 0) (x : RefusedModule) → ((f : ValidateFault) (p : PlaceView) → P f p → Q f p)
    → IsRefusedAt P x → IsRefusedAt Q x
refused_as P Q x k h = placed_as P Q x.fault x.place (k x.fault) h

pub refusals_as : {T : Type 0} (P Q : ValidateFault → PlaceView → Type 0) (r : Result T RefusedModule)
    → ((f : ValidateFault) (p : PlaceView) → P f p → Q f p) → IfErr r (IsRefusedAt P) → IfErr r (IsRefusedAt Q)
refusals_as P Q (Ok t) k h = tt
refusals_as P Q (Err x) k h = refused_as P Q x k h

-- a failed allocation has no place
pub memory_at : (P : ValidateFault → PlaceView → Type 0) (x : RefusedModule) → IsMemoryRefusal x → IsRefusedAt P x
memory_at P x h = subst (IsPlaceOrNone P x.fault) (sym h.1) (subst HasNoPlace (sym h.0) tt)

pub lost_at : (P : ValidateFault → PlaceView → Type 0) (x : RefusedModule) (f : ValidateFault) → x.fault ≡ f → f ≡ Memory → x.place ≡ None → IsRefusedAt P x
lost_at P x f is lost none = memory_at P x (is ∙ lost, none)

-- bytes that are not read have the place at which they stop to be right
read_placed : (j : ValidationInput) (bytes : List ℕ) (f : ReadFault) (o : Option ReadPlace) → IsValidateCause j bytes (of_read f) → IsPlaced bytes f o
    → IsPlaceOrNone (IsPlace j bytes) (of_read f) (option_map bytes_place o)
read_placed j bytes f None cause placed = subst (λ z. HasNoPlace (of_read z)) (sym placed) tt
read_placed j bytes f (Some p) cause placed =
    inl (record { read_fault = f; is_read = refl; cause = cause; place = p; in_bytes = placed.1; at_cause = placed.2; subject = refl; types = refl })

pub read_at : (j : ValidationInput) (bytes : List ℕ) (r : Refused ReadFault ReadPlace) (x : RefusedModule) → IsReadRefusal r x
    → IsValidateCause j bytes (of_read r.fault) → IsPlaced bytes r.fault r.place → IsRefusedAt (IsPlace j bytes) x
read_at j bytes r x h cause placed =
    subst (IsPlaceOrNone (IsPlace j bytes) x.fault) (sym h.1)
    (subst (λ z. IsPlaceOrNone (IsPlace j bytes) z (option_map bytes_place r.place)) (sym h.0) (read_placed j bytes r.fault r.place cause placed))

-- a refusal that is passed on, or comes of another one
pub passed_on : {T E : Type 0} (P : E → Type 0) (r : Result T E) (x : E) → IsErrAnd r (λ e. e ≡ x) → P x → IfErr r P
passed_on P (Ok t) x h p = tt
passed_on P (Err e) x h p = subst P (sym h) p

pub failed_on : {T E : Type 0} (M P : E → Type 0) (r : Result T E) → ((x : E) → M x → P x) → IsErrAnd r M → IfErr r P
failed_on M P (Ok t) k h = tt
failed_on M P (Err e) k h = k e h

pub refused_by : {T E : Type 0} (P Q : E → Type 0) (r : Result T E) → ((x : E) → P x → Q x) → IfErr r P → IfErr r Q
refused_by P Q (Ok t) k h = tt
refused_by P Q (Err e) k h = k e h

-- what is answered without places
pub ok_without : {T : Type 0} (P : T → Type 0) (a : Result T RefusedModule) (r : Result T ValidateFault) → IsWithoutPlace a r → IfOk a P → IfOk r P
ok_without P (Ok t) r h k = subst (λ z. IfOk z P) (sym h) k
ok_without P (Err x) r h k = subst (λ z. IfOk z P) (sym h) tt

pub on_without : {T : Type 0} (A : Type 0) (a : Result T RefusedModule) (r : Result T ValidateFault) → IsWithoutPlace a r → OnOk a A → OnOk r A
on_without A (Ok t) r h k = subst (λ z. OnOk z A) (sym h) k
on_without A (Err x) r h k = subst (λ z. OnOk z A) (sym h) tt

pub err_without : {T : Type 0} (P : ValidateFault → Type 0) (a : Result T RefusedModule) (r : Result T ValidateFault) → IsWithoutPlace a r
    → IfErr a (λ (x : RefusedModule). P x.fault) → IfErr r P
err_without P (Ok t) r h k = subst (λ z. IfErr z P) (sym h) tt
err_without P (Err x) r h k = subst (λ z. IfErr z P) (sym h) k
