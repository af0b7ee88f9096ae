use Rattle.std.proofs.Common.{◌∙◌, sym, subst}
use Rattle.std.specs.Option.{option_map}
use Rattle.wc_names.specs.Finds.{Finds}
use Rattle.wc_names.specs.First.{FirstOf}
use Rattle.wc_names.specs.Interfaces.{IsCloneOf, IsEntryOf, under_own_key}
use Rattle.wc_names.proofs.interface_index.clone_of_interface.Goals as goal

pub returns : goal.returns
returns c = λ r entries kept.
    subst (λ z. Finds (option_map under_own_key z) (FirstOf (IsEntryOf (IsCloneOf r c.args.source.0)) entries)) (sym (c.copied.ensures ∙ c.get.ensures.value))
    (kept c.args.source.0)
