use Rattle.std.proofs.Common.{◌∙◌, ap, ℕ, List}
use Rattle.std.specs.List.{slice_get}
use Rattle.wc_ways.proofs.AskedKeyLemmas.{found_texts}
use Rattle.wc_ways.proofs.asked_keys.AskedKeys.first_of.Goals as goal

pub returns : goal.returns
returns c w key h =
    c.first_name.ensures
    ∙ ap (λ (ts : List (List ℕ)). slice_get ts 0)
    (found_texts c.args.self.now.names.entries c.args.id c.get.result c.get.ensures.value ∙ h.names c.args.id.0)
