use Rattle.std.proofs.Common.{◌∙◌, List, ap, nat_eq, sym, ℕ}
use Rattle.std.specs.Borrow.{Bor}
use Rattle.std.specs.Option.{option_map}
use Rattle.std.proofs.lemmas.Map.Made.{lookup-map_values}
use Rattle.wc_why.specs.Texts.{text_of}
use Rattle.wc_why.proofs.layout.name_by.Goals as goal

pub returns : goal.returns
returns c =
    ap (option_map text_of) (c.copied.ensures ∙ c.get.ensures)
    ∙ sym (lookup-map_values (λ (b : Bor (List ℕ)). b.now) (nat_eq c.args.index) c.args.names.now.entries)
