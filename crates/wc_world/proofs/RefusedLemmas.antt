-- Refusals: of what a module is refused for, to what a component is.
use Rattle.std.proofs.Common.{◌≡◌, ◌⊎◌, ℕ, List, IsSomeAnd, MatchOption, Option, Some, None, Result, Ok, Err, IfErr, IsErrAnd, String, string_bytes, refl, sym, subst, inl, inr, ◌∙◌}
use Rattle.std.specs.Option.{option_map}
use Rattle.std.specs.declared.alloc.Global.{Global}
use Rattle.wc_encoder.specs.EncoderParts.{EncoderView}
use Rattle.wc_dedupe.specs.Renaming.{RenameView}
use Rattle.wc_read.specs.Place.{IsCausePlace, IsPlaceIn}
use Rattle.wc_read.specs.declared.fault.ReadFault.{ReadFault}
use Rattle.wc_read.specs.declared.place.ReadPlace.{ReadPlace}
use Rattle.wc_validate.specs.Explain.{IsPlace, PlaceView, place_view}
use Rattle.wc_validate.specs.Refused.{IsMemoryRefusal as IsMemoryOfModule, IsPlaceOrNone as IsModulePlaceOrNone, IsRefusedAt as IsModuleRefusedAt, RefusedModule, bytes_place}
use Rattle.wc_validate.specs.Validate.{IsValidateCause, ModuleRecord, main_input}
use Rattle.wc_gc.specs.declared.fault.GcFault.{GcFault}
use Rattle.wc_validate.specs.declared.fault.ValidateFault.{ValidateFault}
use Rattle.wc_validate.specs.declared.place.Place.{Place}
use Rattle.wc_validate.proofs.RefusedLemmas.{memory_at}
use Rattle.wc_world.specs.Causes.{IsStopOf}
use Rattle.wc_world.specs.Places.{IsGivenByte, IsInAdapter, IsInMain, IsMainPlace, IsMinimizedPlace, IsNeededUnder, IsOfAdapter, IsOriginalPlace, IsPlaceOfMain, IsTrimPlace, IsTrimUnplaced, read_fault_in}
use Rattle.wc_world.specs.Private.Refused.{IsModuleRefusal, IsOfNoPlace, IsPlaceOf, IsRefusalOfMain}
use Rattle.wc_world.specs.Refused.{HasNoPlace, IsGivenRefusal, IsMainRefusal, IsMemoryRefusal, IsNamedRefusal, IsPlaceOrNone, IsPlaceWith, IsRefusedAt, RefusedWorld}
use Rattle.wc_world.specs.Trimming.{NamedAdapter}
use Rattle.wc_world.specs.World.{IsMainRecord}
use Rattle.wc_world.specs.declared.fault.WorldFault.{WorldFault}
use Rattle.wc_world.specs.declared.fault.WorldFault.TheVariants.{Memory, Main, Adapter, Trim, Minimized, PageSize}
use Rattle.wc_world.specs.declared.places.ModulePlace.{ModulePlace}
use Rattle.wc_world.specs.declared.places.ModulePlace.TheVariants as place
use Rattle.wc_world.specs.declared.places.WorldPlace.{WorldPlace}

-- a refusal that is passed on as another one
pub err_given : {T E : Type 0} (P Q : E → Type 0) (r : Result T E) → ((x : E) → Q x → P x) → IsErrAnd r Q → IfErr r P
err_given P Q (Ok v) f h = tt
err_given P Q (Err e) f h = f e h

pub err_both : {T E : Type 0} (P Q : E → Type 0) (r : Result T E) → IfErr r P → IfErr r Q → IfErr r (λ x. P x × Q x)
err_both P Q (Ok v) p q = tt
err_both P Q (Err e) p q = (p, q)

-- a place that was found in a module is one of the component; and where none is, there is none
module _ {X : Type 0} (Q : WorldPlace → Type 0) (kind : X → ModulePlace) (N : Type 0) (P : X → Type 0) (R : ModulePlace → Type 0) (is_place : (p : X) → P p → R (kind p)) where
  pub placed : (found : Option X) (answer : Option WorldPlace) → MatchOption found N P → IsPlaceWith Q (option_map kind found) answer → MatchOption answer N (λ (p : WorldPlace). Q p × R p.place)
  placed None None h at = h
  placed (Some p) None h at = absurd (let bad : ⊥ = cc at in bad)
  placed None (Some w) h at = absurd (let same : None ≡ Some w.place = at.1 in let bad : ⊥ = cc same in bad)
  placed (Some p) (Some w) h at = let both : Some (kind p) ≡ Some w.place = at.1 in let same : kind p ≡ w.place = cc both in (at.0, subst R same (is_place p h))

-- a refusal under the name of an adapter
pub named_refusal : {X : Type 0} (make : String Global → WorldFault) (kind : X → ModulePlace) (name : List ℕ) (found : Option X) (P : RefusedWorld → Type 0) (x : RefusedWorld) → (IsMemoryRefusal x → P x)
    → ((s : String Global) → string_bytes s ≡ name → x.fault ≡ make s → IsPlaceWith (IsInAdapter name) (option_map kind found) x.place → P x) → IsNamedRefusal make kind name found x → P x
named_refusal make kind name found P x at_memory at_name (inl memory) = at_memory memory
named_refusal make kind name found P x at_memory at_name (inr (s, named, is, at)) = at_name s named is at

-- the refusal of a place that was found, with a fault that is made of the name
pub named_if : {X : Type 0} (make : String Global → WorldFault) (kind : X → ModulePlace) (name : List ℕ) (found : Option X) (s : String Global) (f : WorldFault) (at : Option ModulePlace) (x : RefusedWorld) → f ≡ make s → string_bytes s ≡ name → at ≡ option_map kind found
    → IsMemoryRefusal x ⊎ ((x.fault ≡ f) × IsPlaceWith (IsInAdapter name) at x.place) → IsNamedRefusal make kind name found x
named_if make kind name found s f at x made named is (inl memory) = inl memory
named_if make kind name found s f at x made named is (inr refused) = inr (s, named, refused.0 ∙ made, subst (λ z. IsPlaceWith (IsInAdapter name) z x.place) is refused.1)

-- an allocation failed
pub memory_placed : (e : EncoderView) (x : RefusedWorld) → IsMemoryRefusal x → IsRefusedAt e x
memory_placed e x h = subst (IsPlaceOrNone e x.fault) (sym h.1) (subst (HasNoPlace e) (sym h.0) tt)

-- of the main module: of its bytes; of a fault of reading, with a byte of it as it was given; and as that of the component

given_memory : (e : EncoderView) (y : RefusedModule) → IsMemoryOfModule y → IsRefusalOfMain e y
given_memory e y h = (
  subst (IsValidateCause (main_input e e.module_import_map) e.module_bytes) (sym h.0) tt,
  memory_at (IsMainPlace e) y h,
)

-- a place of a fault, by the fault of reading that it carries
module _ (e : EncoderView) (f : ValidateFault) where
  read_at : (read : Option ReadFault) (p : PlaceView) → read ≡ read_fault_in f → MatchOption read (IsPlace (main_input e e.module_import_map) e.module_bytes f p) (λ r. IsGivenByte e r p) → IsMainPlace e f p
  read_at read p is h = subst (λ o. MatchOption o (IsPlace (main_input e e.module_import_map) e.module_bytes f p) (λ r. IsGivenByte e r p)) is h

  given_at : (r : ReadFault) (o : Option Place) → Some r ≡ read_fault_in f → IsSomeAnd o (λ (p : Place). IsGivenByte e r (place_view p)) → IsModulePlaceOrNone (IsMainPlace e) f o
  given_at r None is h = absurd h
  given_at r (Some p) is h = read_at (Some r) (place_view p) is h

  same_at : (o : Option Place) → None ≡ read_fault_in f → IsModulePlaceOrNone (IsPlace (main_input e e.module_import_map) e.module_bytes) f o → IsModulePlaceOrNone (IsMainPlace e) f o
  same_at None is h = h
  same_at (Some p) is h = read_at None (place_view p) is h

given_by : (e : EncoderView) (m y : RefusedModule) (read : Option ReadFault) → read ≡ read_fault_in m.fault → IsModuleRefusal (main_input e e.module_import_map) e.module_bytes m
    → MatchOption read (y ≡ m) (λ r. IsMemoryOfModule y ⊎ ((y.fault ≡ m.fault) × IsSomeAnd y.place (λ (p : Place). IsGivenByte e r (place_view p)))) → IsRefusalOfMain e y
given_by e m y None is h same = subst (IsRefusalOfMain e) (sym same) (h.0, same_at e m.fault m.place is h.1)
given_by e m y (Some r) is h (inl memory) = given_memory e y memory
given_by e m y (Some r) is h (inr (fault, place)) = (
  subst (IsValidateCause (main_input e e.module_import_map) e.module_bytes) (sym fault) h.0,
  subst (λ f. IsModulePlaceOrNone (IsMainPlace e) f y.place) (sym fault) (given_at e m.fault r y.place is place),
)

pub given_refused : (e : EncoderView) (x y : RefusedModule) (f : ReadFault) (q : ReadPlace) (bytes : List ℕ) → read_fault_in x.fault ≡ Some f → bytes ≡ e.given_bytes → y.fault ≡ x.fault → y.place ≡ Some (bytes_place q)
    → IsPlaceIn bytes q → IsCausePlace bytes f q → IsGivenRefusal e x y
given_refused e x y f q bytes is same fault place there cause =
    subst (λ (o : Option ReadFault). MatchOption o (y ≡ x) (λ r. IsMemoryOfModule y ⊎ ((y.fault ≡ x.fault) × IsSomeAnd y.place (λ (p : Place). IsGivenByte e r (place_view p))))) (sym is)
    (inr (
      fault,
      subst (λ (o : Option Place). IsSomeAnd o (λ (p : Place). IsGivenByte e f (place_view p))) (sym place)
          (q, subst (λ (b : List ℕ). IsPlaceIn b q) same there, subst (λ (b : List ℕ). IsCausePlace b f q) same cause, refl),
    ))

pub main_refusal_of : (e : EncoderView) (renames : Option (List RenameView)) (bytes : List ℕ) (m y : RefusedModule) → renames ≡ e.module_import_map → bytes ≡ e.module_bytes → IsValidateCause (main_input e renames) bytes m.fault
    → IsModuleRefusedAt (IsPlace (main_input e renames) bytes) m → IsGivenRefusal e m y → IsRefusalOfMain e y
main_refusal_of e renames bytes m y same is cause at given =
    given_by e m y (read_fault_in m.fault) refl
    (subst (λ b. IsModuleRefusal (main_input e e.module_import_map) b m) is (subst (λ z. IsModuleRefusal (main_input e z) bytes m) same (cause, at))) given

pub main_placed : (e : EncoderView) (m : RefusedModule) (x : RefusedWorld) → IsRefusalOfMain e m → IsMainRefusal m x → IsRefusedAt e x
main_placed e m x h is =
    subst (λ f. IsPlaceOrNone e f x.place) (sym is.0)
    (placed IsInMain place.Validation (HasNoPlace e (Main m.fault)) _ (IsPlaceOfMain e m.fault) (λ p at. at) m.place x.place h.1 is.1)

-- of a needed adapter of the encoder
module _ (e : EncoderView) (main : ModuleRecord) (recorded : IsMainRecord e main) (a : NamedAdapter) (needed : IsNeededUnder e main a.0 a.1) where
  of_adapter : (name : List ℕ) (P : ModuleRecord → NamedAdapter → Type 0) → name ≡ a.0 → P main a → IsOfAdapter e name P
  of_adapter name P is h = subst (λ n. IsOfAdapter e n P) (sym is) (main, recorded, a.1, needed, h)

  adapter_named : (s : String Global) (v : ValidateFault) → IsStopOf e main a (Adapter s v) → string_bytes s ≡ a.0
  adapter_named s v (inl h) = h.0
  adapter_named s v (inr h) = h.0

  trim_named : (s : String Global) (v : GcFault) → IsStopOf e main a (Trim s v) → string_bytes s ≡ a.0
  trim_named s v (inl h) = h.0
  trim_named s v (inr h) = h.0

  minimized_named : (s : String Global) (v : ValidateFault) → IsStopOf e main a (Minimized s v) → string_bytes s ≡ a.0
  minimized_named s v (inl h) = h.0
  minimized_named s v (inr h) = h.0

  page_named : (s : String Global) (own mains : ℕ) → IsStopOf e main a (PageSize s own mains) → string_bytes s ≡ a.0
  page_named s own mains (inl h) = h.0
  page_named s own mains (inr h) = absurd h

  pub adapter_placed : (f : WorldFault) (answer : Option WorldPlace) → IsStopOf e main a f → MatchOption answer (IsOfNoPlace e main a f) (λ (p : WorldPlace). IsInAdapter a.0 p × IsPlaceOf e main a f p.place) → IsPlaceOrNone e f answer
  adapter_placed Memory o (inl stop) h = absurd stop
  adapter_placed Memory o (inr stop) h = absurd stop
  adapter_placed (Main v) o (inl stop) h = absurd stop
  adapter_placed (Main v) o (inr stop) h = absurd stop
  adapter_placed (Adapter s v) None stop h = h
  adapter_placed (Adapter s v) (Some p) stop h =
      let named : string_bytes s ≡ a.0 = adapter_named s v stop in
      (subst (λ n. IsInAdapter n p) (sym named) h.0, of_adapter (string_bytes s) (IsOriginalPlace e v p.place) named h.1)
  adapter_placed (Trim s v) None stop h = of_adapter (string_bytes s) (IsTrimUnplaced e v) (trim_named s v stop) h
  adapter_placed (Trim s v) (Some p) stop h =
      let named : string_bytes s ≡ a.0 = trim_named s v stop in
      (subst (λ n. IsInAdapter n p) (sym named) h.0, of_adapter (string_bytes s) (IsTrimPlace e v p.place) named h.1)
  adapter_placed (Minimized s v) None stop h = h
  adapter_placed (Minimized s v) (Some p) stop h =
      let named : string_bytes s ≡ a.0 = minimized_named s v stop in
      (subst (λ n. IsInAdapter n p) (sym named) h.0, of_adapter (string_bytes s) (IsMinimizedPlace e v p.place) named h.1)
  adapter_placed (PageSize s own mains) None stop h = absurd h
  adapter_placed (PageSize s own mains) (Some p) stop h = (subst (λ n. IsInAdapter n p) (sym (page_named s own mains stop)) h.0, h.1)
