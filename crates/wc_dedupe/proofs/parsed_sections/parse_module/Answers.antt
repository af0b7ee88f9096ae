use Rattle.std.proofs.Common.{List, subst}
use Rattle.std.proofs.lemmas.Result.{err_from_is_err_and}
use Rattle.wc_read.specs.Sections.{SectionValue}
use Rattle.wc_dedupe.specs.ParsedSections.{AreSpelled}
use Rattle.wc_dedupe.proofs.parsed_sections.parse_module.Goals as goal

pub returns-in_err-frames-clause-refused : goal.returns-in_err-frames-clause-refused
returns-in_err-frames-clause-refused c =
    let p = err_from_is_err_and c.from_residual.result c.from_residual.ensures.1 in
    rw (p.1, p.2) (λ real v s. c.in_err-frames.ensures.refused real s.0 s.1)

pub returns-in_err-parts-clause-refused : goal.returns-in_err-parts-clause-refused
returns-in_err-parts-clause-refused c =
    let p = err_from_is_err_and c.from_residual-in_err-parts.result c.from_residual-in_err-parts.ensures.1 in
    rw (p.1, p.2) (λ real v s.
    let same = c.frames_unique.ensures c.args.bytes.now _ _ s.1 c.in_ok-frames.ensures.found in
    c.in_err-parts.ensures.refused real v (rw c.deref.ensures.value (subst (λ (ss : List SectionValue). AreSpelled ss v) same s.2)))
