use Rattle.std.proofs.lemmas.Result.{err_from_is_err_and}
use Rattle.wc_dedupe.proofs.ParsedSectionsLemmas.{no_section}
use Rattle.wc_dedupe.proofs.parsed_sections.parse_section.Goals as goal

pub returns-in_err-imports-clause-refused : goal.returns-in_err-imports-clause-refused
returns-in_err-imports-clause-refused c =
    let p = err_from_is_err_and c.from_residual.result c.from_residual.ensures.1 in
    rw (p.1, p.2) (λ real. no_section _ c.if-section-ne-IMPORT_ID.false (c.in_err-imports.ensures.refused real))
