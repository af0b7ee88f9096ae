use Rattle.std.proofs.lemmas.List.{get_or_default}
use Rattle.wc_dedupe.proofs.NamePositionLemmas.{no_texts}
use Rattle.wc_dedupe.proofs.name_positions.name_in.Goals as goal

pub returns : goal.returns
returns c = get_or_default c.args.names.now c.args.position no_texts _ c.requires
