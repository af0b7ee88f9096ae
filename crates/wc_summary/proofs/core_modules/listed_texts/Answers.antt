use Rattle.std.proofs.Common.{◌∙◌, ap}
use Rattle.std.specs.List.{dedup}
use Rattle.std.specs.Str.{bytes_eq}
use Rattle.wc_summary.proofs.CorePartLemmas.{listed_once, texts_are}
use Rattle.wc_summary.proofs.core_modules.listed_texts.Goals as goal

pub returns : goal.returns
returns c =
    listed_once c.in_ok-texts.texts.items c.dedup.new.self.items c.dedup.ensures.filtered
    ∙ ap (dedup bytes_eq) (c.in_ok-texts.ensures ∙ texts_are c.args.kind c.args.labels.now c.args.positions.now)
