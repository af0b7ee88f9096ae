use Rattle.std.proofs.Common.{◌≡◌, ◌<◌, length, Some, inl, inr, refl, ap, ◌∙◌, arith}
use Rattle.std.specs.Prelude.{slice_get}
use Rattle.std.proofs.lemmas.Option.{slice_get-get_or}
use Rattle.wc_dedupe.specs.Private.NamePositions.{names_of}
use Rattle.wc_dedupe.specs.Renaming.{ImportName}
use Rattle.wc_dedupe.proofs.NamePositionLemmas.{no_texts, name_of_index, names_equal, searchable, absent}
use Rattle.wc_dedupe.proofs.numbers.take.Goals as goal
use Rattle.wc_dedupe.proofs.numbers.take.Goals.{In-Ok}

pub returns-in_default : goal.returns-in_default
returns-in_default c =
    let x : ImportName = record { module_name = c.args.module.now; name = c.args.name.now } in
    inl (absent c.args.names.now x c.in_default.field-0 (c.in_default.ensures.position (searchable c.args.names.now x c.requires.ascend)), refl)

found : (c : In-Ok) → slice_get (names_of c.args.names.now) c.in-Ok.position ≡ Some (record { module_name = c.args.module.now; name = c.args.name.now })
found c = name_of_index c.args.names.now c.in-Ok.position no_texts c.in-Ok.ensures.bound ∙ ap Some (names_equal _ _ (c.in-Ok.ensures.ok no_texts))

within : (c : In-Ok) → c.in-Ok.position < length c.args.numbers.now
within c = omega (arith, c.in-Ok.ensures.bound, c.requires.numbers)

pub returns-then-numbers-position-ne0 : goal.returns-then-numbers-position-ne0
returns-then-numbers-position-ne0 c =
    let at = (goal.at.returns-then-numbers-position-ne0 c).In-Ok in
    (record { position = c.in-Ok.position; number = _; at = found at; number_is = slice_get-get_or c.args.numbers.now c.in-Ok.position 0 (within at); some = c.if-numbers-position-ne0.true }, refl)

pub returns : goal.returns
returns c =
    let at = (goal.at.returns c).In-Ok in
    inr (c.in-Ok.position, found at, slice_get-get_or c.args.numbers.now c.in-Ok.position 0 (within at) ∙ ap Some c.if-numbers-position-ne0.false, refl)
