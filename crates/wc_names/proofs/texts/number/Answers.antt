use Rattle.std.proofs.Common.{ℕ, Option, sym, subst}
use Rattle.wc_names.specs.Finds.{Finds}
use Rattle.wc_names.specs.Texts.{SpellsNumber}
use Rattle.wc_names.proofs.NumberTextLemmas.{number_parsed}
use Rattle.wc_names.proofs.texts.number.Goals as goal

pub returns : goal.returns
returns c =
    subst (λ (o : Option ℕ). Finds o (λ (n : ℕ). SpellsNumber n c.args.text.now)) (sym c.ok.ensures.value)
    (number_parsed c.args.text.now c.parse.result c.parse.ensures.value.0)
