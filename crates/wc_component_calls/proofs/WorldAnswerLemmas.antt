-- What is answered for the world of a message, clause by clause.
use Rattle.std.proofs.Common.{◌≡◌, ◌≢◌, ◌⊎◌, ◌≤◌, ℕ, List, inl, inr, arith}
use Rattle.wc_calls.specs.Answers.{AreOthersOfTextZero, IsPut, IsTextStatus, IsTooLong, bad_argument, done, failed, out_of_memory, same, too_small}
use Rattle.wc_calls.specs.WorldCalls.{IsAnsweredForWorld, IsOfWorld}
use Rattle.wc_calls.specs.declared.answers.Answer.{Answer}
use Rattle.wc_calls.proofs.FaultAnswerLemmas.{put_by, too_long_by}
use Rattle.wc_world.specs.Views.{ComponentWorldView}
use Rattle.wc_component_calls.specs.FaultAnswers.{IsFaultFor}
use Rattle.wc_component_calls.specs.Private.Answered.{IsAnswered}
use Rattle.wc_component_calls.specs.declared.component_fault.ComponentFault.{ComponentFault}

-- texts and faults with P and Q of a world are answered for the world of a message
abbrev pub IsCallAnswered : (ComponentWorldView → List ℕ → Type 0) → (ComponentWorldView → ComponentFault → Type 0) → List ℕ → List ℕ → Answer → List ℕ → List ℕ → Type 0
IsCallAnswered P Q message modules a old new = IsAnsweredForWorld (λ w b o n. IsAnswered (P w) (Q w) b o n) message modules a old new

-- what is so of the world of a message, by more that is known of it
of_world_by : (message modules : List ℕ) (A B : ComponentWorldView → Type 0) (h : IsOfWorld message modules A) → B h.world → IsOfWorld message modules B
of_world_by message modules A B h is =
    record { encoder = h.encoder; encodes = h.encodes; options = h.options; given = h.given; world = h.world; made = h.made; is = is }

-- the statuses where there is no world
refused_status : (n : ℕ) → (n ≡ failed) ⊎ (n ≡ out_of_memory) → (n ≢ done) × (n ≢ too_small) × IsTextStatus n
refused_status n (inl is) = ((λ other. absurd (omega (arith, is, other))), (λ other. absurd (omega (arith, is, other))), inr is)
refused_status n (inr is) = ((λ other. absurd (omega (arith, is, other))), (λ other. absurd (omega (arith, is, other))), inl (inr (inr is)))

pub done_for : (P : ComponentWorldView → List ℕ → Type 0) (Q : ComponentWorldView → ComponentFault → Type 0) (message modules : List ℕ) (a : Answer) (old new : List ℕ)
    → IsCallAnswered P Q message modules a old new → a.status ≡ done → IsPut (λ t. IsOfWorld message modules (λ w. P w t)) a.length old new
done_for P Q message modules a old new (inl h) is =
    put_by (P h.world) (λ t. IsOfWorld message modules (λ w. P w t)) a.length old new (λ t p. of_world_by message modules _ (λ w. P w t) h p) (h.is.put is)
done_for P Q message modules a old new (inr h) is = absurd ((refused_status a.status h.statuses).0 is)

pub too_small_for : (P : ComponentWorldView → List ℕ → Type 0) (Q : ComponentWorldView → ComponentFault → Type 0) (message modules : List ℕ) (a : Answer) (old new : List ℕ)
    → IsCallAnswered P Q message modules a old new → a.status ≡ too_small → IsTooLong (λ t. IsOfWorld message modules (λ w. P w t)) a.length old
too_small_for P Q message modules a old new (inl h) is =
    too_long_by (P h.world) (λ t. IsOfWorld message modules (λ w. P w t)) a.length old (λ t p. of_world_by message modules _ (λ w. P w t) h p) (h.is.longer is)
too_small_for P Q message modules a old new (inr h) is = absurd ((refused_status a.status h.statuses).1 is)

pub fault_for : (P : ComponentWorldView → List ℕ → Type 0) (Q : ComponentWorldView → ComponentFault → Type 0) (message modules : List ℕ) (a : Answer) (old new : List ℕ)
    → IsCallAnswered P Q message modules a old new → a.status ≡ failed → IsFaultFor Q message modules a old new
fault_for P Q message modules a old new (inl h) is = inr (of_world_by message modules _ _ h (h.is.fault is))
fault_for P Q message modules a old new (inr h) is = inl (h.fault is)

pub others_for : (P : ComponentWorldView → List ℕ → Type 0) (Q : ComponentWorldView → ComponentFault → Type 0) (message modules : List ℕ) (a : Answer) (old new : List ℕ)
    → IsCallAnswered P Q message modules a old new → AreOthersOfTextZero a
others_for P Q message modules a old new (inl h) = h.is.others
others_for P Q message modules a old new (inr h) = h.others

pub no_module_for : (P : ComponentWorldView → List ℕ → Type 0) (Q : ComponentWorldView → ComponentFault → Type 0) (message modules : List ℕ) (a : Answer) (old new : List ℕ)
    → IsCallAnswered P Q message modules a old new → a.module_length ≡ 0
no_module_for P Q message modules a old new (inl h) = h.is.no_module
no_module_for P Q message modules a old new (inr h) =
    let status = refused_status a.status h.statuses in
    h.others.1 status.0 status.1

pub unchanged_for : (P : ComponentWorldView → List ℕ → Type 0) (Q : ComponentWorldView → ComponentFault → Type 0) (message modules : List ℕ) (a : Answer) (old new : List ℕ)
    → IsCallAnswered P Q message modules a old new → a.status ≢ done → a.status ≢ failed → new ≡ old
unchanged_for P Q message modules a old new (inl h) is failed = h.is.unchanged is failed
unchanged_for P Q message modules a old new (inr h) is failed = h.unchanged failed

-- no other status is answered

text_status : (n : ℕ) → IsTextStatus n → (n ≤ 5) × (n ≢ same) × (n ≢ bad_argument)
text_status n (inl (inl is)) = (omega (arith, is), (λ other. absurd (omega (arith, is, other))), (λ other. absurd (omega (arith, is, other))))
text_status n (inl (inr (inl is))) = (omega (arith, is), (λ other. absurd (omega (arith, is, other))), (λ other. absurd (omega (arith, is, other))))
text_status n (inl (inr (inr is))) = (omega (arith, is), (λ other. absurd (omega (arith, is, other))), (λ other. absurd (omega (arith, is, other))))
text_status n (inr is) = (omega (arith, is), (λ other. absurd (omega (arith, is, other))), (λ other. absurd (omega (arith, is, other))))

pub statuses_for : (P : ComponentWorldView → List ℕ → Type 0) (Q : ComponentWorldView → ComponentFault → Type 0) (message modules : List ℕ) (a : Answer) (old new : List ℕ)
    → IsCallAnswered P Q message modules a old new → (a.status ≤ 5) × (a.status ≢ same) × (a.status ≢ bad_argument)
statuses_for P Q message modules a old new (inl h) = text_status a.status h.is.statuses
statuses_for P Q message modules a old new (inr h) = text_status a.status (refused_status a.status h.statuses).2
