use Rattle.std.proofs.Common.{arith, refl}
use Rattle.wc_read.proofs.ShortTypesLemmas.{short_made_params, short_made_results}
use Rattle.wc_read.proofs.short_types.ShortTypes.of.Goals as goal

pub returns-clause-params : goal.returns-clause-params
returns-clause-params c = short_made_params _ c.args.params.now c.args.results.now _ _ c.put_types-2.new.types refl c.put_types.ensures c.put_types-2.ensures (grind arith)

pub returns-clause-results : goal.returns-clause-results
returns-clause-results c = short_made_results _ _ c.args.results.now c.put_types.new.types c.put_types-2.new.types refl c.put_types-2.ensures (grind arith)
