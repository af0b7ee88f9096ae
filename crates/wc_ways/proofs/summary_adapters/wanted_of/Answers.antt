use Rattle.std.proofs.Common.{◌∙◌, ◌&&◌, not}
use Rattle.std.proofs.lemmas.Result.{IfOk-weaker}
use Rattle.wc_ways.specs.Words.{is_wanted}
use Rattle.wc_ways.proofs.summary_adapters.wanted_of.Goals as goal

pub returns : goal.returns
returns c =
    IfOk-weaker c.wanted_among.result _ _
    (λ m h e. h e ∙ (λ i. not (c.in_ok-always.ensures e i) && is_wanted (c.in_ok-imported.ensures i) e)) c.wanted_among.ensures
