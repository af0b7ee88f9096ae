use Rattle.std.proofs.Common.{◌∙◌, refl, sym}
use Rattle.std.specs.Str.{IsUtf8}
use Rattle.wc_calls.proofs.ExportNameLemmas.{all_more, text_at, all_passed}
use Rattle.wc_calls.proofs.export_names.are_texts.Goals as goal

pub returns-then-not-is_text : goal.returns-then-not-is_text
returns-then-not-is_text c =
    (λ h. absurd cc, λ all. sym c.if-not-is_text.true ∙ c.is_text.ensures.1 (text_at IsUtf8 c.args.names.now c.loop-name.name-index _ c.loop-name-test.true all))

pub loop-name-preserved : goal.loop-name-preserved
loop-name-preserved c =
    all_more IsUtf8 c.args.names.now c.loop-name.name-index _ c.loop-name-test.true c.loop-name.invariant (c.is_text.ensures.0 c.if-not-is_text.false)

pub returns : goal.returns
returns c =
    (λ h. all_passed IsUtf8 c.args.names.now c.loop-name.name-index c.loop-name-test.false c.loop-name.invariant, λ all. refl)
