-- Faults that are passed on.
use Rattle.std.proofs.Common.{◌≡◌, Ok, Err}
use Rattle.wc_json.specs.Fault.{IsFault, IsFaultOf, Reading, fault_here, refusal, ◌>>=◌}
use Rattle.wc_json.specs.declared.fault.Problem.{Problem}
use Rattle.wc_json.specs.declared.fault.JsonFault.{JsonFault}
use Rattle.wc_json.specs.declared.fault.JsonFault.TheVariants.{Memory, NotJson, RepeatedMember, Wrong}

-- the fault of a reading is that of what goes on with it
pub IsFaultOf_bind : {A B : Type 0} (fault : JsonFault) (reading : Reading A) (next : A → Reading B) → IsFaultOf fault reading
    → IsFaultOf fault (reading >>= next)
IsFaultOf_bind Memory reading next h = tt
IsFaultOf_bind NotJson (Ok b) next h = absurd h
IsFaultOf_bind NotJson (Err f) next h = absurd h
IsFaultOf_bind RepeatedMember (Ok b) next h = absurd h
IsFaultOf_bind RepeatedMember (Err f) next h = absurd h
IsFaultOf_bind (Wrong path problem) (Ok b) next h = absurd h
IsFaultOf_bind (Wrong path problem) (Err f) next h = h

-- the fault of a value itself is that of its refusal
pub IsFaultOf_refusal : {A : Type 0} (fault : JsonFault) (reading : Reading A) (problem : Problem) → reading ≡ refusal problem
    → IsFault fault (fault_here problem) → IsFaultOf fault reading
IsFaultOf_refusal Memory reading problem e h = tt
IsFaultOf_refusal NotJson reading problem e h = absurd h
IsFaultOf_refusal RepeatedMember reading problem e h = absurd h
IsFaultOf_refusal (Wrong path other) reading problem e h = rw e h
