use Rattle.wc_record.proofs.exports.ExportToJson.write.Goals as goal

pub returns-in-WorldFunc : goal.returns-in-WorldFunc
returns-in-WorldFunc c = rw (c.in-WorldFunc.is, ← c.deref.ensures) c.put_world_function.ensures

pub returns-in-WorldFuncPostReturn : goal.returns-in-WorldFuncPostReturn
returns-in-WorldFuncPostReturn c = rw c.in-WorldFuncPostReturn.is c.put_kind_with.ensures

pub returns-in-InterfaceFunc : goal.returns-in-InterfaceFunc
returns-in-InterfaceFunc c = rw (c.in-InterfaceFunc.is, ← c.deref-in-InterfaceFunc.ensures) c.put_interface_function.ensures

pub returns-in-InterfaceFuncPostReturn : goal.returns-in-InterfaceFuncPostReturn
returns-in-InterfaceFuncPostReturn c = rw (c.in-InterfaceFuncPostReturn.is, ← c.deref-in-InterfaceFuncPostReturn.ensures) c.put_key_and_name.ensures

pub returns-in-GeneralPurposeRealloc : goal.returns-in-GeneralPurposeRealloc
returns-in-GeneralPurposeRealloc c = rw c.in-GeneralPurposeRealloc.is c.put_plain_kind.ensures

pub returns-in-GeneralPurposeExportRealloc : goal.returns-in-GeneralPurposeExportRealloc
returns-in-GeneralPurposeExportRealloc c = rw c.in-GeneralPurposeExportRealloc.is c.put_plain_kind-in-GeneralPurposeExportRealloc.ensures

pub returns-in-GeneralPurposeImportRealloc : goal.returns-in-GeneralPurposeImportRealloc
returns-in-GeneralPurposeImportRealloc c = rw c.in-GeneralPurposeImportRealloc.is c.put_plain_kind-in-GeneralPurposeImportRealloc.ensures

pub returns-in-ReallocForAdapter : goal.returns-in-ReallocForAdapter
returns-in-ReallocForAdapter c = rw c.in-ReallocForAdapter.is c.put_plain_kind-in-ReallocForAdapter.ensures

pub returns-in-WorldFuncCallback : goal.returns-in-WorldFuncCallback
returns-in-WorldFuncCallback c = rw c.in-WorldFuncCallback.is c.put_kind_with-in-WorldFuncCallback.ensures

pub returns-in-InterfaceFuncCallback : goal.returns-in-InterfaceFuncCallback
returns-in-InterfaceFuncCallback c =
    rw (c.in-InterfaceFuncCallback.is, ← c.deref-in-InterfaceFuncCallback.ensures) c.put_key_and_name-in-InterfaceFuncCallback.ensures

pub returns-in-IndirectFunctionTable : goal.returns-in-IndirectFunctionTable
returns-in-IndirectFunctionTable c = rw c.in-IndirectFunctionTable.is c.put_plain_kind-in-IndirectFunctionTable.ensures
