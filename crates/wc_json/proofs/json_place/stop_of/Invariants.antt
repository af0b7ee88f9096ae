use Rattle.std.proofs.Common.{◌≡◌, length}
use Rattle.wc_json.specs.JsonPlace.{first_read, read_view, stop}
use Rattle.wc_json.proofs.json_place.stop_of.Given as goal

abbrev pub invariant-loop-token : goal.invariant-loop-token
invariant-loop-token l = stop l.text (read_view l.read) l.rest l.reader ≡ stop l.fn.text first_read l.fn.starts l.fn.reader

abbrev pub decreases-loop-token : goal.decreases-loop-token
decreases-loop-token l = length l.reader
