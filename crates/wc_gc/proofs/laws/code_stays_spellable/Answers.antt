use Rattle.wc_gc.proofs.SpellableLemmas.{body_stays, init_stays}
use Rattle.wc_gc.proofs.laws.code_stays_spellable.Goals as goal

pub returns-clause-bodies : goal.returns-clause-bodies
returns-clause-bodies c = λ new b keeps h. body_stays new keeps b h

pub returns-clause-initialisers : goal.returns-clause-initialisers
returns-clause-initialisers c = λ new is keeps h. init_stays new keeps is h
