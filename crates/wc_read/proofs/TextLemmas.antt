-- Text in UTF-8, by the test and by the fact.
use Rattle.std.proofs.lemmas.Str.{is_utf8-from_IsUtf8, IsUtf8-from_is_utf8}

pub ruleset text = (is_utf8-from_IsUtf8, IsUtf8-from_is_utf8)
