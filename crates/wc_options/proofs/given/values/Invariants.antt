use Rattle.std.proofs.Common.{◌≡◌, ◌++◌, drop, map}
use Rattle.wc_options.specs.Reading.{lines_of, mode_view, said_by, said_from, texts_in, values_of}
use Rattle.wc_options.specs.Wrong.{text_of}
use Rattle.wc_options.proofs.given.values.Given as goal

abbrev pub invariant-loop-argument : goal.invariant-loop-argument
invariant-loop-argument l =
    map text_of l.found.items ++ values_of l.name (said_from (lines_of l.table) (texts_in (drop l.argument-index l.arguments)) (mode_view l.mode))
    ≡ values_of l.name (said_by (lines_of l.table) (texts_in l.arguments))
