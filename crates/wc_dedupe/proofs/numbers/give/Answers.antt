use Rattle.std.proofs.Common.{◌<◌, length, Some, refl, ap, ◌∙◌, arith}
use Rattle.std.proofs.lemmas.List.{length-map}
use Rattle.std.proofs.lemmas.Option.{slice_get-get_or, get_or_from_slice_get}
use Rattle.wc_dedupe.specs.Private.NamePositions.{named, names_of}
use Rattle.wc_dedupe.proofs.GivenLemmas.{number_within}
use Rattle.wc_dedupe.proofs.numbers.give.Goals as goal
use Rattle.wc_dedupe.proofs.numbers.give.Goals.{Start}

within : (c : Start) → c.args.position < length c.args.numbers.now
within c = number_within (names_of c.args.known.names.now) c.requires.given.0 c.args.numbers.now c.requires.given.2 c.args.position (omega (arith, c.requires.position, length-map c.args.known.names.now named))

pub bounds-numbers-position : goal.bounds-numbers-position
bounds-numbers-position c = within (goal.at.bounds-numbers-position c).Start

pub bounds-numbers-position-then-numbers-position-eq0 : goal.bounds-numbers-position-then-numbers-position-eq0
bounds-numbers-position-then-numbers-position-eq0 c = within (goal.at.bounds-numbers-position-then-numbers-position-eq0 c).Start

pub returns-then-numbers-position-eq0 : goal.returns-then-numbers-position-eq0
returns-then-numbers-position-eq0 c = (slice_get-get_or c.args.numbers.now c.args.position 0 (within (goal.at.returns-then-numbers-position-eq0 c).Start) ∙ ap Some c.if-numbers-position-eq0.true, refl)

pub give_number-requires-clause-taken : goal.give_number-requires-clause-taken
give_number-requires-clause-taken c = λ e. c.if-numbers-position-eq0.false (get_or_from_slice_get c.args.numbers.now c.args.position 0 0 e)

pub returns : goal.returns
returns c = (λ e. c.if-numbers-position-eq0.false (get_or_from_slice_get c.args.numbers.now c.args.position 0 0 e), c.in_ok-name.ensures)
