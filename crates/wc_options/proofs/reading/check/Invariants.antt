use Rattle.std.proofs.Common.{◌≡◌, drop, take}
use Rattle.wc_options.specs.Reading.{lines_of, mode_view, read, read_from, texts_in}
use Rattle.wc_options.proofs.reading.check.Given as goal

abbrev pub invariant-loop-index : goal.invariant-loop-index
invariant-loop-index l =
    read_from (lines_of l.table) l.most (texts_in (take l.index l.arguments)) (texts_in (drop l.index l.arguments)) (mode_view l.mode)
    ≡ read (lines_of l.table) l.most (texts_in l.arguments)
