use Rattle.std.proofs.Common.{map}
use Rattle.wc_maps.proofs.SetLemmas.{missing_listed, there_listed}
use Rattle.wc_selection.proofs.module_keys.first_unknown.Goals as goal
use Rattle.wc_selection.specs.Keys.{named_key, texts_of}
use Rattle.wc_maps.specs.Texts.{text_of}

pub returns-clause-unknown : goal.returns-clause-unknown
returns-clause-unknown c =
    missing_listed (map text_of c.args.texts.now) (texts_of (map named_key c.args.keys.now)) (map text_of c.in_ok-set.set.keys) c.in_ok-set.ensures
    c.first_outside.result c.first_outside.ensures.missing

pub returns-clause-none : goal.returns-clause-none
returns-clause-none c =
    there_listed (map text_of c.args.texts.now) (texts_of (map named_key c.args.keys.now)) (map text_of c.in_ok-set.set.keys) c.in_ok-set.ensures
    c.first_outside.result c.first_outside.ensures.none
