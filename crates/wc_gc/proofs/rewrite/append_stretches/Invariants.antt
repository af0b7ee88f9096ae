use Rattle.std.proofs.Common.{◌≡◌, ◌++◌, take}
use Rattle.std.specs.List.{flat_map}
use Rattle.wc_gc.specs.NewIndices.{new_of}
use Rattle.wc_gc.specs.Private.BodyCuts.{stretch_text}
use Rattle.wc_gc.proofs.rewrite.append_stretches.Given as goal

abbrev pub invariant-loop-stretch : goal.invariant-loop-stretch
invariant-loop-stretch l = l.out.items ≡ l.fn.out.items ++ flat_map (stretch_text (new_of l.new)) (take l.stretch-index l.stretches)
