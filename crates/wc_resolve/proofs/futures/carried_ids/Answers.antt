use Rattle.std.proofs.Common.{ap, ◌∙◌, map}
use Rattle.std.specs.List.{filter_map}
use Rattle.wc_resolve.specs.Kinds.{type_index}
use Rattle.wc_resolve.specs.Roots.{id_index}
use Rattle.wc_resolve.proofs.ListingLemmas.{ids_indices}
use Rattle.wc_resolve.proofs.futures.carried_ids.Goals as goal

pub returns : goal.returns
returns c =
    ap (λ z. map id_index z) c.in_ok-ids.ensures ∙ ids_indices c.deref.result.now ∙ ap (λ z. filter_map type_index z) (c.deref.ensures.value ∙ c.in_ok-types.ensures)
