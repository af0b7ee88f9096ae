use Rattle.std.proofs.Common.{String, Global, ap, sym}
use Rattle.wc_resolve.specs.declared.worlds.WorldKey.{WorldKey}
use Rattle.wc_selection.proofs.KeyIndexLemmas.{keys_next}
use Rattle.wc_selection.proofs.key_index.keys_at.Goals as goal

pub loop-position-preserved : goal.loop-position-preserved
loop-position-preserved c =
    let key = c.index-keys-position in
    keys_next c.args.keys.now c.args.positions.now c.loop-position.position-index key.result _ c.loop-position.found.items c.push.new.self.items
    c.loop-position-test.true (c.requires c.loop-position.position-index 0 c.loop-position-test.true) key.is
    (sym (ap (λ (z : WorldKey × String Global). z.0) key.is)) c.in_ok-push.ensures.items c.loop-position.invariant
