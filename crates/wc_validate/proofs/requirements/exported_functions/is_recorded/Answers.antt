use Rattle.std.proofs.Common.{ap, List, ℕ}
use Rattle.std.specs.Option.{option_map}
use Rattle.wc_resolve.specs.Dependencies.{id_of_interface}
use Rattle.wc_validate.proofs.ExportedFunctionLemmas.{key_recorded}
use Rattle.wc_validate.proofs.requirements.exported_functions.is_recorded.Goals as goal

pub returns : goal.returns
returns c = λ recorded same.
    key_recorded c.args.functions.now.keys recorded (c.args.interface, c.in_ok-from_str.field-0) (option_map id_of_interface c.args.interface, c.args.name.now)
    c.contains.result same
    (ap (λ (z : List ℕ). (option_map id_of_interface c.args.interface, z)) c.in_ok-from_str.ensures.ok) c.contains.ensures
