use Rattle.wc_component_file.proofs.RoleLemmas.{unread_at}
use Rattle.wc_component_file.proofs.told.told_by_bytes.Goals as goal

pub returns-in-Err-clause-refused : goal.returns-in-Err-clause-refused
returns-in-Err-clause-refused c =
    unread_at c.args.position c.args.bytes.now c.in-Err.refused c.unread.result c.unread.ensures c.in-Err.ensures.refused c.in-Err.ensures.place
