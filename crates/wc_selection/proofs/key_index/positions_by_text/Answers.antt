use Rattle.std.proofs.Common.{String, Global, ◌∙◌, ap, rules, string_bytes, sym}
use Rattle.wc_resolve.specs.declared.worlds.WorldKey.{WorldKey}
use Rattle.wc_selection.proofs.PositionLemmas.{positions_next}
use Rattle.wc_selection.proofs.key_index.positions_by_text.Goals as goal

pub loop-position-preserved : goal.loop-position-preserved
loop-position-preserved c =
    let key = c.index-keys-position in
    positions_next c.args.keys.now c.loop-position.position key.result c.as_str.result.now c.loop-position.positions.entries
    c.list_under.new.lists.entries (search rules) key.is
    (c.as_str.ensures.value ∙ sym (ap (λ (z : WorldKey × String Global). string_bytes z.1) key.is)) c.in_ok-list_under.ensures c.loop-position.invariant
