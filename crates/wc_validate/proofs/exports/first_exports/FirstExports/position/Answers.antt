use Rattle.std.proofs.Common.{ap, sym, ◌∙◌}
use Rattle.std.specs.Map.{lookup}
use Rattle.wc_validate.specs.Exports.FirstExports.{position_in}
use Rattle.wc_validate.proofs.FirstByKeyLemmas.{key_test}
use Rattle.wc_validate.proofs.FirstPositionLemmas.{earlier_is}
use Rattle.wc_validate.proofs.exports.first_exports.FirstExports.position.Goals as goal

pub returns-in-PostReturn : goal.returns-in-PostReturn
returns-in-PostReturn c =
    earlier_is c.earlier.ensures (c.copied.ensures ∙ (c.get.ensures.value ∙ ap (λ z. lookup z c.args.self.now.world_post_returns.entries)
    (key_test c.in-PostReturn.key.now))) c.position-in-PostReturn.ensures
    ∙ ap (position_in c.args.self.now) (sym c.in-PostReturn.is)

pub returns-in-Callback : goal.returns-in-Callback
returns-in-Callback c =
    earlier_is c.earlier-in-Callback.ensures (c.copied-in-Callback.ensures
    ∙ (c.get-in-Callback.ensures.value ∙ ap (λ z. lookup z c.args.self.now.world_callbacks.entries) (key_test c.in-Callback.key.now)))
    c.position-in-Callback.ensures
    ∙ ap (position_in c.args.self.now) (sym c.in-Callback.is)
