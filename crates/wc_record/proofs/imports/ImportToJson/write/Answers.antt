use Rattle.wc_record.proofs.imports.ImportToJson.write.Goals as goal

pub returns-in-WorldFunc : goal.returns-in-WorldFunc
returns-in-WorldFunc c = rw (c.in-WorldFunc.is, ← c.deref.ensures) c.put_world_function.ensures

pub returns-in-InterfaceFunc : goal.returns-in-InterfaceFunc
returns-in-InterfaceFunc c = rw (c.in-InterfaceFunc.is, ← c.deref-in-InterfaceFunc.ensures) c.put_interface_function.ensures

pub returns-in-ContextGet : goal.returns-in-ContextGet
returns-in-ContextGet c = rw c.in-ContextGet.is c.put_slot.ensures

pub returns-in-ContextSet : goal.returns-in-ContextSet
returns-in-ContextSet c = rw c.in-ContextSet.is c.put_slot-in-ContextSet.ensures

pub returns-in-TlsBaseGet : goal.returns-in-TlsBaseGet
returns-in-TlsBaseGet c = rw c.in-TlsBaseGet.is c.put_kind_with-in-TlsBaseGet.ensures

pub returns-in-TlsBaseSet : goal.returns-in-TlsBaseSet
returns-in-TlsBaseSet c = rw c.in-TlsBaseSet.is c.put_kind_with-in-TlsBaseSet.ensures

pub returns-in-ErrorContextNew : goal.returns-in-ErrorContextNew
returns-in-ErrorContextNew c = rw c.in-ErrorContextNew.is c.put_kind_with-in-ErrorContextNew.ensures

pub returns-in-BackpressureInc : goal.returns-in-BackpressureInc
returns-in-BackpressureInc c = rw c.in-BackpressureInc.is c.put_plain_kind-in-BackpressureInc.ensures

pub returns-in-BackpressureDec : goal.returns-in-BackpressureDec
returns-in-BackpressureDec c = rw c.in-BackpressureDec.is c.put_plain_kind-in-BackpressureDec.ensures

pub returns-in-WaitableSetNew : goal.returns-in-WaitableSetNew
returns-in-WaitableSetNew c = rw c.in-WaitableSetNew.is c.put_plain_kind-in-WaitableSetNew.ensures

pub returns-in-WaitableSetWait : goal.returns-in-WaitableSetWait
returns-in-WaitableSetWait c = rw c.in-WaitableSetWait.is c.put_plain_kind-in-WaitableSetWait.ensures

pub returns-in-WaitableSetPoll : goal.returns-in-WaitableSetPoll
returns-in-WaitableSetPoll c = rw c.in-WaitableSetPoll.is c.put_plain_kind-in-WaitableSetPoll.ensures

pub returns-in-WaitableSetDrop : goal.returns-in-WaitableSetDrop
returns-in-WaitableSetDrop c = rw c.in-WaitableSetDrop.is c.put_plain_kind-in-WaitableSetDrop.ensures

pub returns-in-WaitableJoin : goal.returns-in-WaitableJoin
returns-in-WaitableJoin c = rw c.in-WaitableJoin.is c.put_plain_kind-in-WaitableJoin.ensures

pub returns-in-SubtaskDrop : goal.returns-in-SubtaskDrop
returns-in-SubtaskDrop c = rw c.in-SubtaskDrop.is c.put_plain_kind-in-SubtaskDrop.ensures

pub returns-in-SubtaskCancel : goal.returns-in-SubtaskCancel
returns-in-SubtaskCancel c = rw c.in-SubtaskCancel.is c.put_kind_with-in-SubtaskCancel.ensures

pub returns-in-ThreadSuspend : goal.returns-in-ThreadSuspend
returns-in-ThreadSuspend c = rw c.in-ThreadSuspend.is c.put_plain_kind-in-ThreadSuspend.ensures

pub returns-in-ThreadYield : goal.returns-in-ThreadYield
returns-in-ThreadYield c = rw c.in-ThreadYield.is c.put_plain_kind-in-ThreadYield.ensures

pub returns-in-ThreadSuspendThenResume : goal.returns-in-ThreadSuspendThenResume
returns-in-ThreadSuspendThenResume c = rw c.in-ThreadSuspendThenResume.is c.put_plain_kind-in-ThreadSuspendThenResume.ensures

pub returns-in-ThreadYieldThenResume : goal.returns-in-ThreadYieldThenResume
returns-in-ThreadYieldThenResume c = rw c.in-ThreadYieldThenResume.is c.put_plain_kind-in-ThreadYieldThenResume.ensures

pub returns-in-ThreadSuspendThenPromote : goal.returns-in-ThreadSuspendThenPromote
returns-in-ThreadSuspendThenPromote c = rw c.in-ThreadSuspendThenPromote.is c.put_plain_kind-in-ThreadSuspendThenPromote.ensures

pub returns-in-ThreadYieldThenPromote : goal.returns-in-ThreadYieldThenPromote
returns-in-ThreadYieldThenPromote c = rw c.in-ThreadYieldThenPromote.is c.put_plain_kind-in-ThreadYieldThenPromote.ensures

pub returns-in-StreamWrite : goal.returns-in-StreamWrite
returns-in-StreamWrite c = rw c.in-StreamWrite.is c.put_async_value-in-StreamWrite.ensures

pub returns-in-StreamForward : goal.returns-in-StreamForward
returns-in-StreamForward c = rw c.in-StreamForward.is c.put_async_value-in-StreamForward.ensures

pub returns-in-FutureWrite : goal.returns-in-FutureWrite
returns-in-FutureWrite c = rw c.in-FutureWrite.is c.put_async_value-in-FutureWrite.ensures

pub returns-in-FutureCancelRead : goal.returns-in-FutureCancelRead
returns-in-FutureCancelRead c = rw c.in-FutureCancelRead.is c.put_async_value-in-FutureCancelRead.ensures

pub returns-in-FutureCancelWrite : goal.returns-in-FutureCancelWrite
returns-in-FutureCancelWrite c = rw c.in-FutureCancelWrite.is c.put_async_value-in-FutureCancelWrite.ensures
