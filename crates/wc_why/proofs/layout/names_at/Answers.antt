use Rattle.std.proofs.Common.{inr}
use Rattle.wc_why.proofs.ViewLemmas.{if_ok}
use Rattle.wc_why.proofs.layout.names_at.Goals as goal

pub returns-in-Err : goal.returns-in-Err
returns-in-Err c =
    if_ok c.no_names.result (λ m none. inr ((λ all given. let (sections, spells, names) = given in c.in-Err.ensures.refused none.0 sections spells), none.1)) c.no_names.ensures
