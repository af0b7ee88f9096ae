use Rattle.std.proofs.Common.{sym, ◌∙◌}
use Rattle.wc_resolve.specs.Views.{key_view}
use Rattle.wc_resolve.proofs.KeyLemmas.{keys_law}
use Rattle.wc_resolve.proofs.LookupLemmas.{lookup_contains}
use Rattle.wc_selection.specs.WorldParts.{IsKeyOf}
use Rattle.wc_selection.proofs.world_parts.is_key_of.Goals as goal

pub returns : goal.returns
unfolding IsKeyOf
returns c =
    let there = lookup_contains _ (key_view c.args.key.now) (λ y. keys_law c.args.key.now y) c.args.entries.now.entries in
    ((λ t. there.0 (sym c.contains_key.ensures ∙ t)), (λ h. c.contains_key.ensures ∙ there.1 h))
