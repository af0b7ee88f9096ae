use Rattle.std.proofs.lemmas.Result.{err_from_is_err_and}
use Rattle.wc_dedupe.proofs.ParsedSectionsLemmas.{spelled_push, spelled_at}
use Rattle.wc_dedupe.proofs.parsed_sections.parse_sections.Goals as goal

pub returns-in_err-part-clause-refused : goal.returns-in_err-part-clause-refused
returns-in_err-part-clause-refused c =
    let p = err_from_is_err_and c.from_residual.result c.from_residual.ensures.1 in
    rw (p.1, p.2) (λ real v spelled. let part = spelled_at _ v _ _ spelled c.loop-section-test.true in c.in_err-part.ensures.refused real part.0 part.1)

pub loop-section-preserved : goal.loop-section-preserved
loop-section-preserved c = rw c.in_ok-push.ensures.items (spelled_push _ _ _ _ _ c.loop-section-test.true c.loop-section.invariant c.in_ok-part.ensures.found)
