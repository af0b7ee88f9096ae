use Rattle.std.proofs.Common.{◌∙◌, ap, ℕ, List}
use Rattle.std.specs.List.{slice_get}
use Rattle.wc_ways.proofs.asked_keys.AskedKeys.first_interface.Goals as goal

pub returns : goal.returns
returns c w key h = c.first_name.ensures ∙ ap (λ (ts : List (List ℕ)). slice_get ts 0) (c.interfaces.ensures w key h)
