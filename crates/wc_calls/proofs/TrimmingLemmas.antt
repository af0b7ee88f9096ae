-- What trimming answers, as the answer of a call.
use Rattle.std.proofs.Common.{◌≡◌, ◌≢◌, ◌≤◌, ◌⊎◌, ◌<◌, arith, ℕ, List, length, false, Result, Ok, Err, IfOk, IfErr, None, Option, ap, refl, sym, subst, inl, inr, ◌∙◌}
use Rattle.std.proofs.lemmas.Bool.{false≢true}
use Rattle.wc_gc.specs.LiveItems.{TrimInput, trim_input_for_names}
use Rattle.wc_gc.specs.TrimPlace.{IsExplained}
use Rattle.wc_record.specs.Places.{trim_place_json}
use Rattle.wc_texts.specs.Names.{first_occurrences}
use Rattle.wc_gc.specs.declared.fault.GcFault.{GcFault}
use Rattle.wc_gc.specs.declared.fault.GcFault.TheVariants.{Memory}
use Rattle.wc_gc.specs.declared.trim_place.TrimPlace.{TrimPlace}
use Rattle.wc_calls.specs.Answers.{IsBytesStatus, IsFront, IsPut, IsTooLong, bad_argument, done, failed, same as same_status, too_small, out_of_memory}
use Rattle.wc_calls.specs.MemoryFaults.{gc_is_memory}
use Rattle.wc_calls.specs.Places.{place_text}
use Rattle.wc_calls.specs.Private.TrimArguments.{IsTrimAnswered, RefusedTrim}
use Rattle.wc_calls.specs.Trimming.{IsFaultFor, IsPosition, position_in}
use Rattle.wc_calls.specs.declared.answers.Answer.{Answer}

-- a status that is one of the calls, but for two
one_of : (status n : ℕ) → status ≡ n → n ≤ 5 → n ≢ 3 → n ≢ 4 → (status ≤ 5) × (status ≢ same_status) × (status ≢ bad_argument)
one_of status n is most other another = subst (λ k. (k ≤ 5) × (k ≢ same_status) × (k ≢ bad_argument)) (sym is) (most, other, another)

-- what is so of the names of a set is so of the names that are put into it, each once
pub for_names : {V : Type 0} (P : TrimInput → V → Type 0) (wasm : List ℕ) (keys names : List (List ℕ)) (r : Result V RefusedTrim) → keys ≡ first_occurrences names
    → IfOk r (P (record { bytes = wasm; required = keys })) → IfOk r (P (trim_input_for_names wasm names))
for_names P wasm keys names (Ok v) same h = subst (λ (ns : List (List ℕ)). P (record { bytes = wasm; required = ns }) v) same h
for_names P wasm keys names (Err f) same h = h

pub put_of : {V : Type 0} (items : V → List ℕ) (P : List ℕ → Type 0) (r : Result V RefusedTrim) (status n : ℕ) (old new : List ℕ) → IfOk r (λ v. P (items v)) → IfOk r (λ v. n ≡ length (items v)) → IfOk r (λ v. status ≡ done → IsFront (items v) old new) → IfErr r (λ f. (status ≢ done) × (status ≢ too_small)) → status ≡ done → IsPut P n old new
put_of items P (Ok v) status n old new is long front refused e = (items v, is, long, front e)
put_of items P (Err f) status n old new is long front refused e = absurd (refused.0 e)

pub too_long_of : {V : Type 0} (items : V → List ℕ) (P : List ℕ → Type 0) (r : Result V RefusedTrim) (status n : ℕ) (old : List ℕ) → IfOk r (λ v. P (items v)) → IfOk r (λ v. n ≡ length (items v)) → IfOk r (λ v. status ≡ too_small → length old < n) → IfErr r (λ f. (status ≢ done) × (status ≢ too_small)) → status ≡ too_small → IsTooLong P n old
too_long_of items P (Ok v) status n old is long small refused e = (items v, is, long, small e)
too_long_of items P (Err f) status n old is long small refused e = absurd (refused.1 e)

pub fault_of : {V : Type 0} (C : TrimInput → GcFault → Type 0) (wasm : List ℕ) (keys names : List (List ℕ)) (r : Result V RefusedTrim) (a : Answer)
    (old new : List ℕ) → ((f : GcFault) → f ≢ Memory → C (trim_input_for_names wasm names) f → IsPosition names f (position_in names f))
    → keys ≡ first_occurrences names → IfErr r (λ x. C (record { bytes = wasm; required = keys }) x.fault)
    → IfErr r (λ x. IsExplained (record { bytes = wasm; required = keys }) x.fault x.place) → IfOk r (λ v. IsBytesStatus a.status)
    → IfErr r (λ x. a.status ≡ failed → gc_is_memory x.fault ≡ false) → IfErr r (λ x. a.status ≡ failed → IsTrimAnswered names x a old new)
    → a.status ≡ failed → IsFaultFor (C (trim_input_for_names wasm names)) wasm names a old new
fault_of C wasm keys names (Ok v) a old new at same cause explained ok memory fault e =
    elim ok [
      | inl is ↦ absurd cc
      | inr others ↦ elim others [
        | inl is ↦ absurd cc
        | inr is ↦ absurd cc
      ]
    ]
fault_of C wasm keys names (Err x) a old new at same cause explained ok memory fault e =
    let none = memory e in
    let other : x.fault ≢ Memory = λ m. false≢true (sym none ∙ ap gc_is_memory m) in
    let answered = fault e in
    let once = subst (λ (ns : List (List ℕ)). C (record { bytes = wasm; required = ns }) x.fault) same cause in
    let about = subst (λ (ns : List (List ℕ)). IsExplained (record { bytes = wasm; required = ns }) x.fault x.place) same explained in (
      x.fault,
      once,
      none,
      subst (IsPosition names x.fault) (sym answered.position) (at x.fault other once),
      (place_text (trim_place_json None) x.place, (x.place, about, refl), answered),
    )

-- an allocation failed, which is about nothing
pub memory_explained : (w : TrimInput) (f : GcFault) (p : Option TrimPlace) → f ≡ Memory → p ≡ None → IsExplained w f p
memory_explained w f p is none =
    subst (λ g. IsExplained w g p) (sym is) (subst (IsExplained w Memory) (sym none) (λ q h. h.2))

-- the statuses of a trim
pub statuses_of : {V : Type 0} (r : Result V RefusedTrim) (status : ℕ) → IfOk r (λ v. IsBytesStatus status)
    → IfErr r (λ f. (status ≡ failed) ⊎ (status ≡ out_of_memory)) → (status ≤ 5) × (status ≢ same_status) × (status ≢ bad_argument)
statuses_of (Ok v) status (inl is) err = one_of status 0 is (omega arith) (λ e. let bad : ⊥ = cc e in bad) (λ e. let bad : ⊥ = cc e in bad)
statuses_of (Ok v) status (inr (inl is)) err = one_of status 2 is (omega arith) (λ e. let bad : ⊥ = cc e in bad) (λ e. let bad : ⊥ = cc e in bad)
statuses_of (Ok v) status (inr (inr is)) err = one_of status 5 is (omega arith) (λ e. let bad : ⊥ = cc e in bad) (λ e. let bad : ⊥ = cc e in bad)
statuses_of (Err f) status ok (inl is) = one_of status 1 is (omega arith) (λ e. let bad : ⊥ = cc e in bad) (λ e. let bad : ⊥ = cc e in bad)
statuses_of (Err f) status ok (inr is) = one_of status 5 is (omega arith) (λ e. let bad : ⊥ = cc e in bad) (λ e. let bad : ⊥ = cc e in bad)
