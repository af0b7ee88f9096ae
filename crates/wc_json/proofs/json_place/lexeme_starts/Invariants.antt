use Rattle.std.proofs.Common.{◌≡◌, ◌++◌, drop}
use Rattle.wc_json.specs.JsonPlace.{starts}
use Rattle.wc_json.specs.declared.json_place.Mode.TheVariants.{Between}
use Rattle.wc_json.proofs.json_place.lexeme_starts.Given as goal

abbrev pub invariant-loop-at : goal.invariant-loop-at
invariant-loop-at l = l.found.items ++ starts l.mode l.at (drop l.at l.text) ≡ starts Between 0 l.text
