use Rattle.std.proofs.Common.{ℕ, ◌<◌, List, length, Some, get_or, refl, sym, ap, subst, ◌∙◌, arith}
use Rattle.std.specs.List.{Contains}
use Rattle.std.proofs.lemmas.List.{length-map}
use Rattle.std.proofs.lemmas.Option.{slice_get-get_or}
use Rattle.wc_dedupe.specs.Private.NamePositions.{named, names_of}
use Rattle.wc_dedupe.proofs.GivenLemmas.{number_within, numbers_wide, takes_from, no_number_left}
use Rattle.wc_dedupe.proofs.NamePositionLemmas.{no_texts, name_of_index}
use Rattle.wc_dedupe.proofs.numbers.give_number.Goals as goal
use Rattle.wc_dedupe.proofs.numbers.give_number.Goals.{Start}

within : (c : Start) → c.args.position < length c.args.numbers.now
within c = number_within (names_of c.args.known.names.now) c.requires.given.0 c.args.numbers.now c.requires.given.2 c.args.position (omega (arith, c.requires.position, length-map c.args.known.names.now named))

pub bounds-numbers-position : goal.bounds-numbers-position
bounds-numbers-position c = within (goal.at.bounds-numbers-position c).Start

pub take_numbered-requires-clause-lacks : goal.take_numbered-requires-clause-lacks
take_numbered-requires-clause-lacks c = λ none.
    subst (λ (q : List ℕ). ¬ Contains (names_of c.args.known.names.now) (record { module_name = (get_or c.args.known.names.now c.args.position no_texts).0.now; name = q }))
    (sym (c.as_str.ensures.value ∙ c.in_ok-name.ensures)) (c.requires.lacks none (named (get_or c.args.known.names.now c.args.position no_texts)) c.loop-number.number)

pub take_numbered-requires-clause-numbers : goal.take_numbered-requires-clause-numbers
take_numbered-requires-clause-numbers c =
    let wide = numbers_wide (names_of c.args.known.names.now) c.requires.given.0 c.args.numbers.now c.requires.given.2 in
    omega (arith, wide, length-map c.args.known.names.now named, c.loop-number.auto.numbers)

pub bounds-numbers-position-then-take_numbered : goal.bounds-numbers-position-then-take_numbered
bounds-numbers-position-then-take_numbered c = omega (arith, within (goal.at.bounds-numbers-position-then-take_numbered c).Start, c.take_numbered.auto.numbers, c.loop-number.auto.numbers)

pub returns-then-take_numbered : goal.returns-then-take_numbered
returns-then-take_numbered c =
    let original = get_or c.args.known.names.now c.args.position no_texts in
    record {
      original = named original;
      from = get_or c.args.numbers.now c.args.position 0;
      number = c.loop-number.number;
      between = c.take_numbered.new.numbers;
      at = name_of_index c.args.known.names.now c.args.position no_texts c.requires.position;
      from_is = slice_get-get_or c.args.numbers.now c.args.position 0 (within (goal.at.returns-then-take_numbered c).Start);
      not_below = c.loop-number.auto.number;
      small = omega (arith, c.loop-number-test.true, c.requires.few);
      spelled = c.in_ok-name.ensures;
      tried = c.loop-number.invariant.1;
      takes = takes_from (names_of c.args.known.names.now) c.args.numbers.now c.loop-number.numbers c.take_numbered.new.numbers _ _ c.loop-number.invariant.0
          (ap (λ (q : List ℕ). record { module_name = original.0.now; name = q }) (c.as_str.ensures.value ∙ c.in_ok-name.ensures)) c.if-take_numbered.ensures;
      stored = refl;
    }

pub unreachable-requires : goal.unreachable-requires
unreachable-requires c =
    let from = slice_get-get_or c.args.numbers.now c.args.position 0 (within (goal.at.unreachable-requires c).Start) in
    no_number_left (names_of c.args.known.names.now) c.requires.given.0 c.args.numbers.now c.args.position (named (get_or c.args.known.names.now c.args.position no_texts)) (get_or c.args.numbers.now c.args.position 0) c.args.given c.requires.given.2
    (name_of_index c.args.known.names.now c.args.position no_texts c.requires.position) from (λ e. c.requires.taken (from ∙ ap Some e)) c.requires.given.1 c.requires.few
    (λ k a b. c.loop-number.invariant.1 k a (omega (arith, b, c.loop-number-test.false)))
