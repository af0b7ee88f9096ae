-- Texts and faults that are answered.
use Rattle.std.proofs.Common.{◌≡◌, ◌≢◌, ◌⊎◌, ◌<◌, ℕ, List, Ok, Err, IfOk, IfErr, length, subst, sym, refl, inl, inr, arith, false}
use Rattle.wc_calls.specs.Answers.{HasNoBytes, HasNoFault, IsFront, IsTextStatus, done, failed, out_of_memory, too_small}
use Rattle.wc_calls.specs.declared.answers.Answer.{Answer}
use Rattle.wc_calls.proofs.FaultAnswerLemmas.{put_by, too_long_by}
use Rattle.wc_component_calls.specs.ComponentFault.{is_memory}
use Rattle.wc_component_calls.specs.FaultAnswers.{IsAnsweredFault, IsFaultAnswer}
use Rattle.wc_component_calls.specs.Private.Answered.{IsAnswered, IsFaultIn, IsTextIn, Made}
use Rattle.wc_component_calls.specs.declared.component_fault.ComponentFault.{ComponentFault}

-- the statuses of a text that is put
put_status : (n : ℕ) → (n ≡ done) ⊎ (n ≡ too_small) → (n ≢ failed) × IsTextStatus n
put_status n (inl is) = ((λ other. absurd (omega (arith, is, other))), inl (inl is))
put_status n (inr is) = ((λ other. absurd (omega (arith, is, other))), inl (inr (inl is)))

-- a text is answered, where it is put
pub text_answered : (text : List ℕ) (Q : ComponentFault → Type 0) (a : Answer) (old new : List ℕ) → a.length ≡ length text → a.module_length ≡ 0
    → (a.status ≡ done → IsFront text old new) → (a.status ≡ too_small → length old < a.length) → (a.status ≢ done → new ≡ old)
    → (a.status ≡ done) ⊎ (a.status ≡ too_small) → HasNoFault a → (a.status ≢ done → a.status ≢ too_small → HasNoBytes a)
    → IsAnswered (λ t. t ≡ text) Q a old new
text_answered text Q a old new size no_module front fewer same statuses no_fault no_bytes = record {
  put = λ is. (text, refl, size, front is);
  longer = λ is. (text, refl, size, fewer is);
  fault = λ is. absurd ((put_status a.status statuses).0 is);
  no_module = no_module;
  unchanged = λ other fault. same other;
  statuses = (put_status a.status statuses).1;
  others = ((λ other. no_fault), (λ other longer. no_module), (λ other longer fault. (no_bytes other longer).0));
}

-- a fault is answered
pub fault_answered : (f : ComponentFault) (a : Answer) (old new : List ℕ) → is_memory f ≡ false → IsFaultAnswer f a old new
    → IsAnswered (λ t. ⊥) (λ g. g ≡ f) a old new
fault_answered f a old new other h = record {
  put = λ is. absurd (omega (arith, is, h.status));
  longer = λ is. absurd (omega (arith, is, h.status));
  fault = λ is. (f, refl, other, h);
  no_module = h.no_module;
  unchanged = λ is failed. absurd (failed h.status);
  statuses = inr h.status;
  others = ((λ failed. absurd (failed h.status)), (λ is longer. h.no_module), (λ is longer failed. absurd (failed h.status)));
}

-- an allocation failed
pub memory_answered : (P : List ℕ → Type 0) (Q : ComponentFault → Type 0) (a : Answer) (old : List ℕ) → a.status ≡ out_of_memory → HasNoFault a → HasNoBytes a
    → IsAnswered P Q a old old
memory_answered P Q a old memory no_fault no_bytes = record {
  put = λ is. absurd (omega (arith, is, memory));
  longer = λ is. absurd (omega (arith, is, memory));
  fault = λ is. absurd (omega (arith, is, memory));
  no_module = no_bytes.1;
  unchanged = λ is failed. refl;
  statuses = inl (inr (inr memory));
  others = ((λ failed. no_fault), (λ is longer. no_bytes.1), (λ is longer failed. no_bytes.0));
}

-- what is answered, by more that is known of it

fault_by : (Q S : ComponentFault → Type 0) (a : Answer) (old new : List ℕ) → ((f : ComponentFault) → Q f → S f) → IsAnsweredFault Q a old new
    → IsAnsweredFault S a old new
fault_by Q S a old new faults (f, cause, other, answered) = (f, faults f cause, other, answered)

answered_by : (P R : List ℕ → Type 0) (Q S : ComponentFault → Type 0) (a : Answer) (old new : List ℕ) → ((t : List ℕ) → P t → R t)
    → ((f : ComponentFault) → Q f → S f) → IsAnswered P Q a old new → IsAnswered R S a old new
answered_by P R Q S a old new texts faults h = record {
  put = λ is. put_by P R a.length old new texts (h.put is);
  longer = λ is. too_long_by P R a.length old texts (h.longer is);
  fault = λ is. fault_by Q S a old new faults (h.fault is);
  no_module = h.no_module;
  unchanged = h.unchanged;
  statuses = h.statuses;
  others = h.others;
}

-- what was made, of which this is known

text_made : (P : List ℕ → Type 0) (r : Made) → IfOk r (λ v. P v.items) → (t : List ℕ) → IsTextIn r t → P t
text_made P (Ok v) is t same = subst P (sym same) is
text_made P (Err f) is t same = absurd same

fault_made : (Q : ComponentFault → Type 0) (r : Made) → IfErr r Q → (f : ComponentFault) → IsFaultIn r f → Q f
fault_made Q (Ok v) is f same = absurd same
fault_made Q (Err g) is f same = subst Q (sym same) is

pub made_answered : (P : List ℕ → Type 0) (Q : ComponentFault → Type 0) (r : Made) (a : Answer) (old new : List ℕ) → IfOk r (λ v. P v.items) → IfErr r Q
    → IsAnswered (IsTextIn r) (IsFaultIn r) a old new → IsAnswered P Q a old new
made_answered P Q r a old new texts faults h =
    answered_by (IsTextIn r) P (IsFaultIn r) Q a old new (text_made P r texts) (fault_made Q r faults) h

-- a text, or a fault, is what was made

pub answered_text : (r : Made) (text : List ℕ) (a : Answer) (old new : List ℕ) → IsTextIn r text → IsAnswered (λ t. t ≡ text) (λ f. ⊥) a old new
    → IsAnswered (IsTextIn r) (IsFaultIn r) a old new
answered_text r text a old new is h =
    answered_by (λ t. t ≡ text) (IsTextIn r) (λ f. ⊥) (IsFaultIn r) a old new (λ t same. subst (IsTextIn r) (sym same) is) (λ f never. absurd never) h

pub answered_fault : (r : Made) (f : ComponentFault) (a : Answer) (old new : List ℕ) → IsFaultIn r f → IsAnswered (λ t. ⊥) (λ g. g ≡ f) a old new
    → IsAnswered (IsTextIn r) (IsFaultIn r) a old new
answered_fault r f a old new is h =
    answered_by (λ t. ⊥) (IsTextIn r) (λ g. g ≡ f) (IsFaultIn r) a old new (λ t never. absurd never) (λ g same. subst (IsFaultIn r) (sym same) is) h
