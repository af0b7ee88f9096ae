use Rattle.std.proofs.Common.{List, ℕ, Some, string_bytes, refl, sym, ap, ◌∙◌}
use Rattle.std.specs.Prelude.{slice_get}
use Rattle.std.specs.Option.{option_map}
use Rattle.std.proofs.lemmas.Option.{slice_get-map, slice_get_read, slice_get_past}
use Rattle.wc_dedupe.specs.Renaming.{RenameView}
use Rattle.wc_dedupe.specs.Private.RenameLists.{rename_in}
use Rattle.wc_dedupe.proofs.RenameTextLemmas.{placed_at, read_at}
use Rattle.wc_dedupe.proofs.rename_list.RenameList.get.Goals as goal

pub rename_at-requires : goal.rename_at-requires
rename_at-requires c =
    let at = rw c.deref.ensures.value at (slice_get_read _ _ _ _ refl c.in-Some.ensures.lookup.3.0 c.in-Some.ensures.lookup.1) in
    rw c.deref-in-Some.ensures (placed_at _ _ _ _ at c.self.invariant)

pub returns-in-Some : goal.returns-in-Some
returns-in-Some c =
    let texts = string_bytes c.self.inside.texts in
    let at = rw c.deref.ensures.value at (slice_get_read _ _ _ _ refl c.in-Some.ensures.lookup.3.0 c.in-Some.ensures.lookup.1) in
    ap Some (c.rename_at.ensures ∙ ap (λ (ts : List ℕ). rename_in ts c.in-Some.place.now) c.deref-in-Some.ensures)
    ∙ sym (read_at texts c.self.inside.places.items c.args.self.now c.args.index c.in-Some.place.now c.self.view_is at)

pub returns-in-None : goal.returns-in-None
returns-in-None c =
    let past = rw c.deref.ensures.value at c.in-None.ensures.lookup.3 in
    let texts = string_bytes c.self.inside.texts in
    sym (slice_get-map (rename_in texts) c.self.inside.places.items c.args.index ∙ ap (option_map (rename_in texts)) (slice_get_past _ _ past)) ∙ ap (λ (rs : List RenameView). slice_get rs c.args.index) c.self.view_is
