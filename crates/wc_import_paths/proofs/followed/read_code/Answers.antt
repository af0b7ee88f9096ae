use Rattle.wc_import_paths.proofs.FollowedLemmas.{code_refusal}
use Rattle.wc_import_paths.proofs.followed.read_code.Goals as goal

pub returns-in-Err-clause-refused : goal.returns-in-Err-clause-refused
returns-in-Err-clause-refused c =
    rw (c.unread.ensures.0, c.unread.ensures.1)
    (code_refusal c.args.bytes.now c.in-Err.refused.fault c.in-Err.refused.place c.in-Err.ensures.refused c.in-Err.ensures.component c.in-Err.ensures.place)
