-- Paths to imports, or why there are none, as the answer of a call.
use Rattle.std.proofs.Common.{◌≡◌, ℕ, List, false, Result, Ok, Err, IfOk, IfErr, sym, subst, inl, inr}
use Rattle.wc_import_paths.specs.Following.{IsRefusal}
use Rattle.wc_calls.specs.Answers.{IsBytesStatus, failed}
use Rattle.wc_calls.specs.MemoryFaults.{gc_is_memory}
use Rattle.wc_calls.specs.ModulePaths.{IsPathsFault}
use Rattle.wc_calls.specs.Private.TrimArguments.{IsTrimAnswered, RefusedTrim}
use Rattle.wc_calls.specs.Trimming.{IsPosition}
use Rattle.wc_calls.specs.declared.answers.Answer.{Answer}
use Rattle.wc_calls.proofs.MissingLemmas.{followed_position}

-- a call that has bytes to answer has no fault
no_fault : (status : ℕ) → IsBytesStatus status → ¬ (status ≡ failed)
no_fault status (inl is) e = absurd cc
no_fault status (inr (inl is)) e = absurd cc
no_fault status (inr (inr is)) e = absurd cc

pub paths_fault : {V : Type 0} (wasm : List ℕ) (names : List (List ℕ)) (r : Result V RefusedTrim) (a : Answer) (old new : List ℕ)
    → IfErr r (λ x. IsRefusal wasm names x.fault x.place) → IfOk r (λ v. IsBytesStatus a.status)
    → IfErr r (λ x. a.status ≡ failed → gc_is_memory x.fault ≡ false) → IfErr r (λ x. a.status ≡ failed → IsTrimAnswered names x a old new)
    → a.status ≡ failed → IsPathsFault wasm names a old new
paths_fault wasm names (Ok v) a old new cause ok memory fault e = absurd (no_fault a.status ok e)
paths_fault wasm names (Err x) a old new cause ok memory fault e =
    let answered = fault e in (
      x.fault,
      x.place,
      cause,
      memory e,
      subst (IsPosition names x.fault) (sym answered.position) (followed_position wasm names x.fault x.place cause),
      answered,
    )
