-- What was put to an output and handed on, one after another.
use Rattle.std.proofs.Common.{ℕ, List, ◌++◌, Option}
use Rattle.std.proofs.KnownBytes.{Appends-trans}
use Rattle.std.specs.Io.KnownBytes.{Appends}
use Rattle.wc_program.specs.Screen.{HandsOn}

-- bytes that were put, and then others that were put and handed on
pub hands_on_more : (a b c s : Option (List ℕ)) (xs ys : List ℕ) → Appends a b xs → HandsOn b c s ys → HandsOn a c s (xs ++ ys)
hands_on_more a b c s xs ys h k = record { put = Appends-trans a b c xs ys h k.put; sent = Appends-trans a b s xs ys h k.sent }
