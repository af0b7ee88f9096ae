use Rattle.std.proofs.Common.{◌≡◌, List, ℕ, Some, string_bytes, sym, ap, ◌∙◌}
use Rattle.std.proofs.lemmas.Option.{get_or_from_slice_get}
use Rattle.wc_dedupe.specs.Renames.{rename_view}
use Rattle.wc_dedupe.specs.Private.RenameLists.{rename_in}
use Rattle.wc_dedupe.proofs.RenameTextLemmas.{place_at, placed_at, read_at}
use Rattle.wc_dedupe.proofs.rename_list.RenameList.at.Goals as goal

pub rename_at-requires : goal.rename_at-requires
rename_at-requires c =
    let at = place_at (string_bytes c.self.inside.texts) c.self.inside.places.items c.args.self.now c.args.index c.index.result.now c.self.view_is c.requires c.index.ensures in
    rw c.deref.ensures (placed_at _ _ _ _ at c.self.invariant)

pub returns : goal.returns
returns c =
    let texts = string_bytes c.self.inside.texts in
    let r = rename_view c.rename_at.result in
    let at = place_at texts c.self.inside.places.items c.args.self.now c.args.index c.index.result.now c.self.view_is c.requires c.index.ensures in
    let is : r ≡ rename_in texts c.index.result.now = c.rename_at.ensures ∙ ap (λ (ts : List ℕ). rename_in ts c.index.result.now) c.deref.ensures in
    sym (get_or_from_slice_get c.args.self.now c.args.index r r (read_at texts c.self.inside.places.items c.args.self.now c.args.index c.index.result.now c.self.view_is at ∙ ap Some (sym is)))
