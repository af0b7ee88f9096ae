use Rattle.std.proofs.Common.{◌++◌, take}
use Rattle.wc_options.specs.Usage.{helps}
use Rattle.wc_options.proofs.usage.put_helps.Given as goal

abbrev pub invariant-loop-option : goal.invariant-loop-option
invariant-loop-option g l = g.P.Pieces.puts l.fn.out (l.before ++ helps (take l.option-index l.options)) l.out
