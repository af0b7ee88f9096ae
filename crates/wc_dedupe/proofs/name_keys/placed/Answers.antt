use Rattle.std.proofs.Common.{◌≡◌, ℕ, length, subst, arith}
use Rattle.wc_dedupe.specs.Private.NamePositions.{Texts, PushesNew}
use Rattle.wc_dedupe.proofs.NameKeyLemmas.{ArePlaced, key_within, placed_more, placed_end}
use Rattle.wc_dedupe.proofs.name_keys.placed.Goals as goal

pub name_in-requires : goal.name_in-requires
name_in-requires c = key_within c.args.names.now c.args.keys.now c.loop-key.key-index (0, 0) c.requires c.loop-key-test.true

pub index_mut-requires : goal.index_mut-requires
index_mut-requires c =
    omega (arith, key_within c.args.names.now c.args.keys.now c.loop-key.key-index (0, 0) c.requires c.loop-key-test.true, c.loop-key.invariant.wide, c.loop-key.positions.ok.0)

pub loop-key-preserved : goal.loop-key-preserved
loop-key-preserved c =
    let long : c.len.result ≡ length c.push_new.new.names.items = omega (arith, c.len.ensures, c.push_new.new.names.ok.0) in
    let pushes = subst (λ (t : Texts). PushesNew c.loop-key.few.items c.push_new.new.names.items t) c.name_in.ensures c.in_ok-push_new.ensures in
    rw long
    (placed_more c.args.names.now c.args.keys.now c.loop-key.key-index (0, 0) c.requires c.loop-key-test.true c.name_in.result c.loop-key.few.items c.push_new.new.names.items c.loop-key.positions.items c.loop-key.invariant pushes)

pub returns : goal.returns
returns c =
    let all : c.loop-key.key-index ≡ length c.args.keys.now = omega (arith, c.loop-key-test.false, c.loop-key.auto.key-index-end) in
    placed_end c.args.names.now c.args.keys.now c.loop-key.few.items c.loop-key.positions.items c.requires
    (subst (λ (k : ℕ). ArePlaced c.args.names.now c.args.keys.now k c.loop-key.few.items c.loop-key.positions.items) all c.loop-key.invariant)
