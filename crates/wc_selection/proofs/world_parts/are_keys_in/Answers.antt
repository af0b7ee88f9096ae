use Rattle.std.proofs.Common.{rules}
use Rattle.wc_resolve.specs.Views.{KeyView, ItemView, world_entry}
use Rattle.wc_resolve.proofs.ViewedLemmas.{viewed}
use Rattle.wc_adapters.specs.Entries.{entries_of}
use Rattle.wc_selection.specs.WorldParts.{IsKeyOf}
use Rattle.wc_selection.proofs.world_parts.are_keys_in.Goals as goal

pub returns : goal.returns
returns c =
    let whole = entries_of c.args.whole.now in
    viewed (λ (x : KeyView × ItemView). x.0) (IsKeyOf whole) (entries_of c.args.part.now) c.all.result
    (viewed world_entry (λ (x : KeyView × ItemView). IsKeyOf whole x.0) c.args.part.now.entries c.all.result (search rules))
