use Rattle.std.proofs.Common.{◌≡◌, ◌<◌, ◌≤◌, List, ◌++◌, length, take, drop, get_or, string_bytes, refl, subst, ap, ◌∙◌, arith}
use Rattle.std.specs.Option.{option_map}
use Rattle.std.proofs.lemmas.List.{length-map, take_all}
use Rattle.std.proofs.lemmas.Option.{slice_get_within}
use Rattle.wc_dedupe.specs.Private.Numbers.{PushesRename}
use Rattle.wc_dedupe.specs.Private.NamePositions.{Texts, named, names_of}
use Rattle.wc_dedupe.specs.Renaming.{ImportName}
use Rattle.wc_dedupe.proofs.NamePositionLemmas.{no_texts}
use Rattle.wc_dedupe.proofs.RenameAllLemmas.{State, length_given, position_at, name_read, put_back, renamed_more, renaming_from}
use Rattle.wc_dedupe.proofs.renaming.rename_each.Goals as goal

pub give-requires-clause-position : goal.give-requires-clause-position
give-requires-clause-position c =
    let at = position_at c.args.names.now c.args.known.names.now c.args.positions.now c.args.positions.now c.loop-i.i no_texts c.requires.positions refl c.loop-i-test.true in
    let there = slice_get_within (names_of c.args.known.names.now) _ _ at.0 in
    omega (arith, there, length-map c.args.known.names.now named)

pub give-requires-clause-given : goal.give-requires-clause-given
give-requires-clause-given c =
    let at = position_at c.args.names.now c.args.known.names.now c.args.positions.now c.args.positions.now c.loop-i.i no_texts c.requires.positions refl c.loop-i-test.true in (
      c.loop-i.invariant.0,
      length_given c.args.names.now c.args.known.names.now c.loop-i.i c.loop-i.invariant.0 c.loop-i.indices.items c.loop-i.renames c.loop-i.numbers.items (omega (arith, at.1)) c.loop-i.invariant.1,
      rw c.deref_mut.ensures.value c.loop-i.invariant.1.are,
    )

pub name_in-original-requires : goal.name_in-original-requires
name_in-original-requires c =
    let at = position_at c.args.names.now c.args.known.names.now c.args.positions.now c.args.positions.now c.loop-i.i no_texts c.requires.positions refl c.loop-i-test.true in
    let there = slice_get_within (names_of c.args.known.names.now) _ _ at.0 in
    omega (arith, there, length-map c.args.known.names.now named)

pub loop-i-preserved : goal.loop-i-preserved
loop-i-preserved c =
    let at = position_at c.args.names.now c.args.known.names.now c.args.positions.now c.args.positions.now c.loop-i.i no_texts c.requires.positions refl c.loop-i-test.true in
    let there = slice_get_within (names_of c.args.known.names.now) _ _ at.0 in
    let long : c.loop-i.numbers.len ≡ length c.give.new.numbers = omega (arith, c.loop-i.numbers.ok.0, c.give.auto.numbers, ap length c.deref_mut.ensures.value) in
    let back : take c.loop-i.numbers.len (c.give.new.numbers ++ drop (length c.give.new.numbers) c.loop-i.numbers.items) ≡ c.give.new.numbers = put_back c.loop-i.numbers.items c.give.new.numbers c.loop-i.numbers.len long in
    let below : get_or c.args.positions.now c.loop-i.i 0 < length c.args.known.names.now = omega (arith, there, length-map c.args.known.names.now named) in
    let same = name_read c.args.known.names.now (get_or c.args.positions.now c.loop-i.i 0) c.name_in-original.result _ below c.name_in-original.ensures at.0 in
    let pushes = subst (λ (x : ImportName). PushesRename c.loop-i.renames c.push_rename.new.renames x (option_map string_bytes c.in_ok-name.name) c.in_ok-index.index) same c.in_ok-index.ensures in
    rw (c.in_ok-push.ensures.items, back)
    (renamed_more c.args.names.now c.args.known.names.now c.loop-i.i no_texts c.loop-i.invariant.0 c.loop-i.indices.items c.loop-i.renames c.push_rename.new.renames c.loop-i.numbers.items c.give.new.numbers _
    (option_map string_bytes c.in_ok-name.name) c.in_ok-index.index c.requires.ascend at.1 at.0 (rw c.deref_mut.ensures.value at c.in_ok-name.ensures) pushes c.loop-i.invariant.1)

pub returns : goal.returns
returns c =
    let as_many : length c.args.positions.now ≡ length c.args.names.now = c.requires.positions.as_long ∙ length-map c.args.names.now named in
    let end : length c.args.names.now ≤ c.loop-i.i = omega (arith, as_many, c.loop-i-test.false) in
    renaming_from c.args.names.now c.loop-i.invariant.0 c.loop-i.indices.items c.loop-i.renames
    (subst (λ (ts : List Texts). State (names_of ts) c.loop-i.invariant.0 c.loop-i.indices.items c.loop-i.renames) (take_all c.loop-i.i c.args.names.now end) c.loop-i.invariant.1.state)
