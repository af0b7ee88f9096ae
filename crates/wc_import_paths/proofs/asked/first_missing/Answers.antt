use Rattle.std.proofs.Common.{◌∙◌, [], None, ap, not, sym}
use Rattle.wc_import_paths.specs.Patterns.{is_known, pattern_view}
use Rattle.wc_import_paths.proofs.SearchLemmas.{found_here, none_more}
use Rattle.wc_import_paths.specs.declared.patterns.ImportPattern.{ImportPattern}
use Rattle.wc_import_paths.proofs.asked.first_missing.Goals as goal

pub returns-then-not-has_pattern : goal.returns-then-not-has_pattern
returns-then-not-has_pattern c imports has =
    let d : ImportPattern = record { key = record { ref_ptr = (0, 0); now = [] }; name = None } in
    sym (found_here pattern_view (λ p. not (is_known imports p)) c.args.patterns.now c.loop-pattern.pattern-index d c.loop-pattern-test.true
    (c.loop-pattern.invariant imports has) (ap not (sym (c.has_pattern.ensures imports has) ∙ c.if-not-has_pattern.true)))

pub loop-pattern-preserved : goal.loop-pattern-preserved
loop-pattern-preserved c imports has =
    let d : ImportPattern = record { key = record { ref_ptr = (0, 0); now = [] }; name = None } in
    none_more pattern_view (λ p. not (is_known imports p)) c.args.patterns.now c.loop-pattern.pattern-index d c.loop-pattern-test.true
    (c.loop-pattern.invariant imports has) (ap not (sym (c.has_pattern.ensures imports has) ∙ c.if-not-has_pattern.false))
