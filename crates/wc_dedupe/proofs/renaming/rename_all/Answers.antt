use Rattle.std.proofs.Common.{length, refl, sym}
use Rattle.std.proofs.lemmas.List.{length-map}
use Rattle.wc_dedupe.specs.Private.NamePositions.{named, names_of}
use Rattle.wc_dedupe.proofs.DifferentKeyLemmas.{names_differ}
use Rattle.wc_dedupe.proofs.renaming.rename_all.Goals as goal

pub rename_each-requires-clause-lacks : goal.rename_each-requires-clause-lacks
rename_each-requires-clause-lacks c = rw c.new-all.ensures.names c.new-all.ensures.lacks

pub unrenamed-requires : goal.unrenamed-requires
unrenamed-requires c =
    names_differ (names_of c.args.names.now) (length c.args.names.now) _ (sym (length-map c.args.names.now named)) c.in_ok-keys.ensures (rw c.deref.ensures.value at (c.if-are_different.ensures refl))

pub known_names-requires : goal.known_names-requires
known_names-requires c = rw c.deref-2.ensures.value c.in_ok-keys.ensures
