use Rattle.std.proofs.Common.{map}
use Rattle.wc_maps.proofs.SetLemmas.{missing_listed, there_listed}
use Rattle.wc_maps.proofs.texts.first_missing.Goals as goal
use Rattle.wc_maps.specs.Texts.{text_of}

pub returns-clause-missing : goal.returns-clause-missing
returns-clause-missing c =
    missing_listed (map text_of c.args.texts.now) (map text_of c.args.others.now) (map text_of c.in_ok-set.set.keys) c.in_ok-set.ensures
    c.first_outside.result c.first_outside.ensures.missing

pub returns-clause-none : goal.returns-clause-none
returns-clause-none c =
    there_listed (map text_of c.args.texts.now) (map text_of c.args.others.now) (map text_of c.in_ok-set.set.keys) c.in_ok-set.ensures
    c.first_outside.result c.first_outside.ensures.none
