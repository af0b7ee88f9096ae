use Rattle.std.proofs.Common.{take}
use Rattle.wcwhy.proofs.AllowedLemmas.{AreOnce}
use Rattle.wcwhy.proofs.allowed.each_once.Given as goal

abbrev pub invariant-loop-text : goal.invariant-loop-text
invariant-loop-text l = AreOnce (take l.text-index l.texts) l.seen.keys l.found.items
