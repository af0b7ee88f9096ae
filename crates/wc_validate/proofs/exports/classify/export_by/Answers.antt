use Rattle.wc_validate.specs.NameScope.{name_scope_of}
use Rattle.wc_validate.proofs.ExportKindLemmas.{no_global}
use Rattle.wc_validate.proofs.ClassificationLemmas.{classified_nothing}
use Rattle.wc_validate.specs.Classifications.{of_exports}
use Rattle.wc_validate.specs.Fault.{fault_kind}
use Rattle.wc_validate.proofs.exports.classify.export_by.Goals as goal

pub returns-in-Func : goal.returns-in-Func
returns-in-Func g c = rw c.in-Func.is c.function_by.ensures

pub returns-in-Memory : goal.returns-in-Memory
returns-in-Memory g c = rw c.in-Memory.is (c.memory_by.ensures (name_scope_of c.args.lookup.names.now) c.args.lookup.exports.now.keys)

pub returns-in-Table : goal.returns-in-Table
returns-in-Table g c = rw c.in-Table.is (c.table_by.ensures (name_scope_of c.args.lookup.names.now) c.args.lookup.exports.now.keys c.in-Table.field-0)

pub returns-in-Global : goal.returns-in-Global
returns-in-Global g c =
    rw c.in-Global.is
    (classified_nothing of_exports fault_kind _ _ (no_global (g.N.NameMangling.scheme c.args.scheme.now) (name_scope_of c.args.lookup.names.now)
    c.args.lookup.exports.now.keys c.args.name.now c.in-Global.field-0))
