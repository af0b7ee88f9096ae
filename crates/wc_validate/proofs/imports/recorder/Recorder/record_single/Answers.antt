use Rattle.std.proofs.Common.{map, refl}
use Rattle.wc_names.specs.Views.{import_view}
use Rattle.wc_validate.specs.Imports.Entries.{single}
use Rattle.wc_validate.specs.Imports.Instances.{instance_entry}
use Rattle.wc_validate.specs.Private.Imports.Recorder.{types_in}
use Rattle.wc_validate.proofs.RecorderLemmas.{difference_none, difference_some, difference_types, note_plain, passed_plain, put_plain, recorded_single, refused_differs, refused_note, refused_single}
use Rattle.wc_validate.proofs.imports.recorder.Recorder.record_single.Goals as goal

pub returns-in_err-difference-clause-fault : goal.returns-in_err-difference-clause-fault
returns-in_err-difference-clause-fault g c = λ before is.
    passed_plain before (single c.args.module_name.now c.args.name.now (import_view (g.I.SingleImport.import c.args.import))) _ _ c.from_residual.ensures.1
    (refused_note before c.args.module_name.now c.args.name.now (import_view (g.I.SingleImport.import c.args.import)) c.args.self.now _ is
    c.in_err-difference.ensures.fault)
    (note_plain c.args.self.now.memory (import_view (g.I.SingleImport.import c.args.import)) _ c.in_err-difference.ensures.fault)

pub returns-in_err-put_in-clause-fault : goal.returns-in_err-put_in-clause-fault
returns-in_err-put_in-clause-fault g c = λ before is.
    passed_plain before (single c.args.module_name.now c.args.name.now (import_view (g.I.SingleImport.import c.args.import)))
    _ _ c.from_residual-in_err-put_in.ensures.1
    (refused_single before c.args.module_name.now c.args.name.now (import_view (g.I.SingleImport.import c.args.import))
    c.args.self.now c.note_in.new.recorder is c.in_ok-difference.ensures.instances c.in_ok-difference.ensures.one _
    c.in_err-put_in.ensures.fault)
    (put_plain (map instance_entry c.note_in.new.recorder.instances.entries) c.args.module_name.now c.args.name.now _ c.in_err-put_in.ensures.fault)

pub returns-in-None-clause-recorded : goal.returns-in-None-clause-recorded
returns-in-None-clause-recorded g c = λ before is.
    recorded_single before c.args.module_name.now c.args.name.now (import_view (g.I.SingleImport.import c.args.import))
    c.args.self.now c.note_in.new.recorder is c.in_ok-difference.ensures.instances c.in_ok-difference.ensures.one _
    c.in_ok-difference.ensures.memory
    (difference_none (types_in c.args.self.now) (import_view (g.I.SingleImport.import c.args.import)) (rw c.in-None.is at c.in_ok-difference.ensures.differs))
    c.in_ok-difference.ensures.types
    (c.in_ok-put_in.ensures.recorded before (rw c.in_ok-difference.ensures.instances is.instances)) c.in_ok-put_in.ensures.free refl refl

pub returns-in-Some-clause-fault : goal.returns-in-Some-clause-fault
returns-in-Some-clause-fault g c = λ before is.
    let differs = rw c.in-Some.is at c.in_ok-difference.ensures.differs in (
      refused_differs before c.args.module_name.now c.args.name.now (import_view (g.I.SingleImport.import c.args.import))
          c.args.self.now c.note_in.new.recorder is c.in_ok-difference.ensures.instances c.in_ok-difference.ensures.one
          c.in_ok-put_in.ensures.free (difference_some (types_in c.args.self.now) (import_view (g.I.SingleImport.import c.args.import)) c.in-Some.types differs),
      difference_types before c.args.module_name.now c.args.name.now (types_in c.args.self.now) (import_view (g.I.SingleImport.import c.args.import))
          c.in-Some.types is.types differs,
    )
