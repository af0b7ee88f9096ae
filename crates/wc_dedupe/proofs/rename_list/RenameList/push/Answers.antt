use Rattle.std.proofs.Common.{◌++◌, ◌∷◌, [], List, string_bytes, ap, ◌∙◌}
use Rattle.wc_dedupe.specs.Renaming.{RenameView}
use Rattle.wc_dedupe.specs.Private.RenameLists.{renames_at}
use Rattle.wc_dedupe.proofs.RenameTextLemmas.{places_more, places_push, renames_push}
use Rattle.wc_dedupe.proofs.rename_list.RenameList.push.Goals as goal

pub invariant_of-self : goal.invariant_of-self
invariant_of-self c = places_more _ _ _ c.in_err-place.ensures.longer c.self.invariant

pub invariant_of-self-in_err-push : goal.invariant_of-self-in_err-push
invariant_of-self-in_err-push c = rw c.in_err-push.ensures.items (places_more _ _ _ c.in_ok-place.ensures.longer c.self.invariant)

pub invariant_of-self-2 : goal.invariant_of-self-2
invariant_of-self-2 c = rw c.in_ok-push.ensures.items (places_push _ _ _ _ (places_more _ _ _ c.in_ok-place.ensures.longer c.self.invariant) c.in_ok-place.ensures.placed)

pub returns : goal.returns
returns c =
    let r : RenameView = record { module_name = c.args.module.now; original = c.args.original.now; name = c.args.name.now } in
    ap (renames_at (string_bytes c.push_texts.new.texts)) c.in_ok-push.ensures.items ∙ renames_push _ _ _ _ r c.in_ok-place.ensures.longer c.self.invariant c.in_ok-place.ensures.placed
    ∙ ap (λ (rs : List RenameView). rs ++ r ∷ []) c.self.view_is
