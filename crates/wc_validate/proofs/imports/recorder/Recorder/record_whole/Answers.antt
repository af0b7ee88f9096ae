use Rattle.std.proofs.Common.{map, refl}
use Rattle.wc_adapters.specs.Adapters.{which_view}
use Rattle.wc_validate.specs.Imports.Entries.{whole}
use Rattle.wc_validate.specs.Imports.Instances.{instance_entry}
use Rattle.wc_validate.proofs.RecorderLemmas.{passed_plain, recorded_whole, refused_all, whole_plain}
use Rattle.wc_validate.proofs.imports.recorder.Recorder.record_whole.Goals as goal

pub returns-clause-recorded : goal.returns-clause-recorded
returns-clause-recorded c = λ before is.
    recorded_whole before c.args.module_name.now (which_view c.args.which.now) c.args.self.now _ is refl refl c.in_ok-put_whole.ensures.put

pub returns-in_err-put_whole-clause-fault : goal.returns-in_err-put_whole-clause-fault
returns-in_err-put_whole-clause-fault c = λ before is.
    passed_plain before (whole c.args.module_name.now (which_view c.args.which.now)) _ _ c.from_residual.ensures.1
    (refused_all before c.args.module_name.now (which_view c.args.which.now) c.args.self.now _ is c.in_err-put_whole.ensures.fault)
    (whole_plain (map instance_entry c.args.self.now.instances.entries) c.args.module_name.now (which_view c.args.which.now) _ c.in_err-put_whole.ensures.fault)
