use Rattle.std.proofs.Common.{rules}
use Rattle.wc_texts.specs.Names.{named_view}
use Rattle.wc_resolve.proofs.ViewedLemmas.{viewed}
use Rattle.wc_resolve.proofs.validate.type_test.all_params.Goals as goal

pub returns : goal.returns
returns g c = viewed named_view (λ p. g.T.TypeTest.Passes c.args.test.now p.1) c.args.params.now c.all.result (search rules)
