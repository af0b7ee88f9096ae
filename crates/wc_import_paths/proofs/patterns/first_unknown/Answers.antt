use Rattle.std.proofs.Common.{◌∙◌, ap, map, not, sym}
use Rattle.wc_read.specs.Imports.{import_value}
use Rattle.wc_import_paths.specs.Patterns.{pattern_view}
use Rattle.wc_import_paths.specs.Patterns.{is_known}
use Rattle.wc_import_paths.proofs.SearchLemmas.{found_here, none_more}
use Rattle.wc_import_paths.proofs.patterns.first_unknown.Goals as goal

pub returns-then-not-is_known : goal.returns-then-not-is_known
returns-then-not-is_known c =
    sym (found_here pattern_view (λ p. not (is_known (map import_value c.args.imports.now) p)) c.args.patterns.now c.loop-pattern.pattern-index _
    c.loop-pattern-test.true c.loop-pattern.invariant (ap not (sym c.is_known.ensures ∙ c.if-not-is_known.true)))

pub loop-pattern-preserved : goal.loop-pattern-preserved
loop-pattern-preserved c =
    none_more pattern_view (λ p. not (is_known (map import_value c.args.imports.now) p)) c.args.patterns.now c.loop-pattern.pattern-index _
    c.loop-pattern-test.true c.loop-pattern.invariant (ap not (sym c.is_known.ensures ∙ c.if-not-is_known.false))
