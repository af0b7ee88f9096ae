-- Faults of calls that no number names.
use Rattle.std.proofs.Common.{◌≡◌, ℕ, List, inl, inr, arith}
use Rattle.wc_calls.specs.FaultTexts.{AnswersTrimFaults, IsDedupeText, IsFaultText, IsReadText, IsTrimText, dedupe_call, scan_call}

-- the calls that answer faults of trimming are no others
no_dedupe_call : (call : ℕ) → AnswersTrimFaults call → ¬ (call ≡ dedupe_call)
no_dedupe_call call (inl is) e = absurd (omega (arith, is, e))
no_dedupe_call call (inr (inl is)) e = absurd (omega (arith, is, e))
no_dedupe_call call (inr (inr is)) e = absurd (omega (arith, is, e))

no_scan_call : (call : ℕ) → AnswersTrimFaults call → ¬ (call ≡ scan_call)
no_scan_call call (inl is) e = absurd (omega (arith, is, e))
no_scan_call call (inr (inl is)) e = absurd (omega (arith, is, e))
no_scan_call call (inr (inr is)) e = absurd (omega (arith, is, e))

pub no_dedupe_text : (call number : ℕ) (text : List ℕ) → call ≡ dedupe_call → ¬ (IsDedupeText number text) → ¬ (IsFaultText call number text)
no_dedupe_text call number text is none (inl (e, of)) = none of
no_dedupe_text call number text is none (inr (inl (calls, of))) = no_dedupe_call call calls is
no_dedupe_text call number text is none (inr (inr (e, of))) = absurd (omega (arith, is, e))

pub no_trim_text : (call number : ℕ) (text : List ℕ) → AnswersTrimFaults call → ¬ (IsTrimText number text) → ¬ (IsFaultText call number text)
no_trim_text call number text calls none (inl (e, of)) = no_dedupe_call call calls e
no_trim_text call number text calls none (inr (inl (others, of))) = none of
no_trim_text call number text calls none (inr (inr (e, of))) = no_scan_call call calls e

pub no_read_text : (call number : ℕ) (text : List ℕ) → call ≡ scan_call → ¬ (IsReadText number text) → ¬ (IsFaultText call number text)
no_read_text call number text is none (inl (e, of)) = absurd (omega (arith, is, e))
no_read_text call number text is none (inr (inl (calls, of))) = no_scan_call call calls is
no_read_text call number text is none (inr (inr (e, of))) = none of
