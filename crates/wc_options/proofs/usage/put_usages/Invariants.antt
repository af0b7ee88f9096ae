use Rattle.std.proofs.Common.{◌++◌, take}
use Rattle.wc_options.specs.Usage.{usages}
use Rattle.wc_options.proofs.usage.put_usages.Given as goal

abbrev pub invariant-loop-option : goal.invariant-loop-option
invariant-loop-option g l = g.P.Pieces.puts l.fn.out (l.before ++ usages (take l.option-index l.options)) l.out
