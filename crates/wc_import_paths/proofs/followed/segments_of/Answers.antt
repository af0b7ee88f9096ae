use Rattle.wc_read.specs.Modules.{module_value}
use Rattle.wc_import_paths.proofs.FollowedLemmas.{segments_refusal}
use Rattle.wc_import_paths.proofs.followed.segments_of.Goals as goal

pub returns-in-Err-clause-refused : goal.returns-in-Err-clause-refused
returns-in-Err-clause-refused c =
    segments_refusal (module_value c.args.code.now) c.args.bytes.now c.in-Err.refused.fault c.in-Err.refused.place c.unread_segments.result.fault c.unread_segments.result.place
    c.unread_segments.ensures c.in-Err.ensures.place
