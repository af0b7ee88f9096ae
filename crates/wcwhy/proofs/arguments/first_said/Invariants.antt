use Rattle.std.proofs.Common.{◌≡◌, drop, find, map}
use Rattle.wc_maps.specs.Texts.{text_pair}
use Rattle.wc_options.specs.Reading.{said_by, texts_in}
use Rattle.wcwhy.specs.Reading.{are_said, option_table}
use Rattle.wcwhy.proofs.arguments.first_said.Given as goal

abbrev pub invariant-loop-option : goal.invariant-loop-option
invariant-loop-option l =
    find (are_said (said_by option_table (texts_in l.arguments))) (map text_pair (drop l.option-index l.table))
    ≡ find (are_said (said_by option_table (texts_in l.arguments))) (map text_pair l.table)
