use Rattle.std.proofs.Common.{ℕ, ◌<◌, length, sym, ap, ◌∙◌, subst}
use Rattle.std.proofs.lemmas.List.{length-map}
use Rattle.wc_resolve.specs.Views.{type_view}
use Rattle.wc_resolve.proofs.validate.resource_flags_of.Goals as goal

pub find_resources-requires-clause-within : goal.find_resources-requires-clause-within
find_resources-requires-clause-within c =
    λ x h. subst (λ (n : ℕ). x < n) (length-map c.args.parts.now.types.items type_view ∙ ap (λ z. length z) (sym c.deref.ensures.value)) (c.requires.within x h)
