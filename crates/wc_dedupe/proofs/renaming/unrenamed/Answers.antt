use Rattle.std.proofs.Common.{rules, sym}
use Rattle.std.proofs.lemmas.List.{length-map}
use Rattle.wc_dedupe.specs.Private.NamePositions.{named, names_of}
use Rattle.wc_dedupe.proofs.DifferentKeyLemmas.{unrenamed}
use Rattle.wc_dedupe.proofs.renaming.unrenamed.Goals as goal

pub returns : goal.returns
returns c =
    rw (c.in_ok-indices.ensures.items_if_clones_equal (λ y h. search rules), c.new.ensures)
    (unrenamed (names_of c.args.names.now) _ (sym (length-map c.args.names.now named)) c.requires)
