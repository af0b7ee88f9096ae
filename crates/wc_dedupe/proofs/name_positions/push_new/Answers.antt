use Rattle.std.proofs.Common.{inl, refl, sym}
use Rattle.wc_dedupe.proofs.NamePositionLemmas.{same_names}
use Rattle.wc_dedupe.proofs.name_positions.push_new.Goals as goal

pub returns-then-eq : goal.returns-then-eq
returns-then-eq c = inl (c.in-Some.last.now, (rw c.deref.ensures.value at (sym c.in-Some.ensures.value)), same_names c.in-Some.last.now c.args.name c.if-eq.ensures, refl)
