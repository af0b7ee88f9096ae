use Rattle.std.proofs.Common.{inl, inr}
use Rattle.wc_calls.proofs.FaultTextLemmas.{no_dedupe_text, no_read_text, no_trim_text}
use Rattle.wc_calls.proofs.fault_texts.fault_text.Goals as goal

pub returns-in-0-clause-unknown : goal.returns-in-0-clause-unknown
returns-in-0-clause-unknown c unknown text = no_dedupe_text _ _ text c.in-0.is (c.dedupe_text.ensures.unknown unknown text)

pub returns-in-1-clause-unknown : goal.returns-in-1-clause-unknown
returns-in-1-clause-unknown c unknown text = no_trim_text _ _ text (inl c.in-1.is) (c.trim_text.ensures.unknown unknown text)

pub returns-in-2-clause-unknown : goal.returns-in-2-clause-unknown
returns-in-2-clause-unknown c unknown text = no_trim_text _ _ text (inr (inl c.in-2.is)) (c.trim_text-in-2.ensures.unknown unknown text)

pub returns-in-3-clause-unknown : goal.returns-in-3-clause-unknown
returns-in-3-clause-unknown c unknown text = no_read_text _ _ text c.in-3.is (c.read_text.ensures.unknown unknown text)

pub returns-in-4-clause-unknown : goal.returns-in-4-clause-unknown
returns-in-4-clause-unknown c unknown text = no_trim_text _ _ text (inr (inr c.in-4.is)) (c.trim_text-in-4.ensures.unknown unknown text)
