use Rattle.wc_texts.proofs.PrefixLemmas.{rest_after-strip_prefix}
use Rattle.wc_texts.proofs.prefixes.strip_prefix.Goals as goal

pub returns-clause-rest : goal.returns-clause-rest
returns-clause-rest c = rest_after-strip_prefix c.args.prefix.now c.args.text.now c.strip_prefix.result c.strip_prefix.ensures.cases
