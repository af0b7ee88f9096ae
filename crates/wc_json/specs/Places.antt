-- What a fault of a text is about.
use Rattle.std.specs.Prelude.{◌≡◌, ℕ, List, Option, Some, None, string_bytes}
use Rattle.json.specs.Json.{document}
use Rattle.wc_json.specs.JsonPlace.{json_end}
use Rattle.wc_json.specs.RepeatedMembers.{IsRepeatedPath}
use Rattle.wc_json.specs.declared.fault.JsonFault.{JsonFault}
use Rattle.wc_json.specs.declared.fault.JsonFault.TheVariants.{Memory, NotJson, RepeatedMember, Wrong}
use Rattle.wc_json.specs.declared.places.JsonPlace.{JsonPlace}
use Rattle.wc_json.specs.declared.places.JsonPlace.TheVariants.{Byte, Path}

-- where a text stops to be JSON, the member that is repeated, the value that is wrong; nothing where memory ran out
abbrev pub IsFaultPlace : List ℕ → JsonFault → Option JsonPlace → Type 0
IsFaultPlace text Memory place = place ≡ None
IsFaultPlace text NotJson (Some (Byte at)) = at ≡ json_end text
IsFaultPlace text RepeatedMember (Some (Path path)) = IsRepeatedPath (document text) (string_bytes path)
IsFaultPlace text (Wrong path problem) (Some (Path at)) = string_bytes at ≡ string_bytes path
IsFaultPlace text fault place = ⊥
