use Rattle.std.proofs.Common.{◌∙◌}
use Rattle.std.specs.Option.{option_map}
use Rattle.wc_maps.specs.Texts.{text_of}
use Rattle.wcwhy.proofs.ArgumentLemmas.{inputs_apart}
use Rattle.wcwhy.proofs.arguments.are_inputs_apart.Goals as goal

pub returns : goal.returns
returns c =
    c.is_once.ensures
    ∙ inputs_apart c.args.command.now.source.now (option_map text_of c.args.command.now.allow) c.args.command.now.adapters.items c.deref.result.now
    c.is_standard-source.result c.is_standard_path-allow.result c.count_standard-adapters.result c.is_standard-source.ensures
    c.is_standard_path-allow.ensures c.deref.ensures.value c.count_standard-adapters.ensures
