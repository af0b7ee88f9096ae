-- Faults with a step before their paths.
use Rattle.std.proofs.Common.{ℕ, List, Result, Ok, Err, sym, ap, ◌∙◌}
use Rattle.wc_json.specs.Fault.{IsFaultOf, Reading, Reads}
use Rattle.wc_json.specs.Paths.{IsFaultAt, IsReadAt, at_step, join}
use Rattle.wc_json.specs.declared.fault.JsonFault.{JsonFault}
use Rattle.wc_json.specs.declared.fault.JsonFault.TheVariants.{Memory, NotJson, RepeatedMember, Wrong}

-- the fault of a reading, with a step before its path, is that of the reading at this step
IsFaultOf_at_step : {A : Type 0} (step : List ℕ) (fault moved : JsonFault) (reading : Reading A) → IsFaultAt step fault moved
    → IsFaultOf fault reading → IsFaultOf moved (at_step step reading)
IsFaultOf_at_step step fault Memory reading m h = tt
IsFaultOf_at_step step Memory NotJson reading m h = absurd cc
IsFaultOf_at_step step NotJson NotJson (Ok b) m h = absurd h
IsFaultOf_at_step step NotJson NotJson (Err f) m h = absurd h
IsFaultOf_at_step step RepeatedMember NotJson reading m h = absurd cc
IsFaultOf_at_step step (Wrong p a) NotJson reading m h = absurd cc
IsFaultOf_at_step step Memory RepeatedMember reading m h = absurd cc
IsFaultOf_at_step step NotJson RepeatedMember reading m h = absurd cc
IsFaultOf_at_step step RepeatedMember RepeatedMember (Ok b) m h = absurd h
IsFaultOf_at_step step RepeatedMember RepeatedMember (Err f) m h = absurd h
IsFaultOf_at_step step (Wrong p a) RepeatedMember reading m h = absurd cc
IsFaultOf_at_step step Memory (Wrong q b) reading m h = absurd cc
IsFaultOf_at_step step NotJson (Wrong q b) reading m h = absurd cc
IsFaultOf_at_step step RepeatedMember (Wrong q b) reading m h = absurd cc
IsFaultOf_at_step step (Wrong p a) (Wrong q b) (Ok x) m h = absurd h
IsFaultOf_at_step step (Wrong p a) (Wrong q b) (Err f) m h = (ap (join step) h.0 ∙ sym m.0, h.1 ∙ sym m.1)

-- what is read at a step is the reading at this step
pub Reads_at_step : {A B : Type 0} (view : A → B) (step : List ℕ) (read result : Result A JsonFault) (reading : Reading B) → IsReadAt step read result
    → Reads view read reading → Reads view result (at_step step reading)
Reads_at_step view step (Ok x) (Ok y) reading e h = rw h (ap (λ z. Ok (view z)) (sym e))
Reads_at_step view step (Ok x) (Err f) reading e h = absurd e
Reads_at_step view step (Err g) (Ok y) reading e h = absurd e
Reads_at_step view step (Err g) (Err f) reading e h = IsFaultOf_at_step step g f reading e h
