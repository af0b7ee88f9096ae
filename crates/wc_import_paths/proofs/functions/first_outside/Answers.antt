use Rattle.std.proofs.Common.{◌∙◌, ap, not, sym}
use Rattle.wc_why.specs.Texts.{text_of}
use Rattle.wc_import_paths.specs.Functions.{is_known_function}
use Rattle.wc_import_paths.proofs.SearchLemmas.{found_here, none_more}
use Rattle.wc_import_paths.proofs.functions.first_outside.Goals as goal

pub returns-then-not-is_known : goal.returns-then-not-is_known
returns-then-not-is_known c functions known =
    sym (found_here text_of (λ t. not (is_known_function functions t)) c.args.texts.now c.loop-text.text-index _
    c.loop-text-test.true (c.loop-text.invariant functions known) (ap not (sym (c.is_known.ensures functions known) ∙ c.if-not-is_known.true)))

pub loop-text-preserved : goal.loop-text-preserved
loop-text-preserved c functions known =
    none_more text_of (λ t. not (is_known_function functions t)) c.args.texts.now c.loop-text.text-index _
    c.loop-text-test.true (c.loop-text.invariant functions known) (ap not (sym (c.is_known.ensures functions known) ∙ c.if-not-is_known.false))
