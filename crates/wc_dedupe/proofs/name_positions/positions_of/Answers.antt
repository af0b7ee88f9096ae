use Rattle.std.proofs.Common.{◌≡◌, ℕ, length, subst, arith}
use Rattle.wc_dedupe.specs.Private.NamePositions.{names_of}
use Rattle.wc_dedupe.proofs.NamePositionLemmas.{no_entry, IsWalked, walk_at, walk_end, index_within}
use Rattle.wc_dedupe.proofs.name_positions.positions_of.Goals as goal

pub index_mut-requires : goal.index_mut-requires
index_mut-requires c =
    let within = index_within (names_of c.args.names.now) c.args.entries.now c.loop-entry.entry-index no_entry c.requires.entries c.loop-entry-test.true in
    omega (arith, within, c.loop-entry.invariant.wide, c.loop-entry.positions.ok.0)

pub loop-entry-preserved : goal.loop-entry-preserved
loop-entry-preserved c =
    let long : c.len.result ≡ length c.push_new.new.names.items = omega (arith, c.len.ensures, c.push_new.new.names.ok.0) in
    rw long
    (walk_at (names_of c.args.names.now) c.args.entries.now c.loop-entry.entry-index no_entry c.requires.entries c.requires.sorted c.loop-entry-test.true c.loop-entry.distinct.items c.push_new.new.names.items c.loop-entry.positions.items c.loop-entry.invariant c.in_ok-push_new.ensures)

pub returns : goal.returns
returns c =
    let all : c.loop-entry.entry-index ≡ length c.args.entries.now = omega (arith, c.loop-entry-test.false, c.loop-entry.auto.entry-index-end) in (
      c.loop-entry.invariant.up,
      walk_end (names_of c.args.names.now) c.args.entries.now c.loop-entry.distinct.items c.loop-entry.positions.items c.requires.entries
          (subst (λ (k : ℕ). IsWalked c.args.entries.now k c.loop-entry.distinct.items c.loop-entry.positions.items) all c.loop-entry.invariant),
    )
