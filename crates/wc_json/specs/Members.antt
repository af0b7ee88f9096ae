-- How members of objects are read.
use Rattle.std.specs.Prelude.{ℕ, List, Option, Some, None, Ok, ⊤}
use Rattle.json.specs.Json.{Json, object, Members, no_members, member}
use Rattle.json.specs.Find.{get_member}
use Rattle.wc_json.specs.Fault.{Reading, refusal, ◌>>=◌}
use Rattle.wc_json.specs.FromJson.{nullable}
use Rattle.wc_json.specs.Paths.{at_step}
use Rattle.wc_json.specs.declared.fault.Problem.TheVariants.{Missing, NotAnObject, NotOneMember, Outdated}

abbrev pub members : Json → Reading Members
members (object ms) = Ok ms
members j = refusal NotAnObject

-- the member of this name, if there is one
abbrev pub find_member : List ℕ → Json → Reading (Option Json)
find_member name j = do
  ms ← members j
  Ok (get_member name ms)

abbrev pub value_or_missing : {A : Type 0} → List ℕ → (Json → Reading A) → Option Json → Reading A
value_or_missing name read None = at_step name (refusal Missing)
value_or_missing name read (Some j) = at_step name (read j)

-- a member that has to be there
abbrev pub required_member : {A : Type 0} → List ℕ → (Json → Reading A) → Json → Reading A
required_member name read j = find_member name j >>= value_or_missing name read

abbrev pub value_or_none : {A : Type 0} → List ℕ → (Json → Reading A) → Option Json → Reading (Option A)
value_or_none name read None = Ok None
value_or_none name read (Some j) = at_step name (nullable read j)

-- a member that may be missing or null
abbrev pub optional_member : {A : Type 0} → List ℕ → (Json → Reading A) → Json → Reading (Option A)
optional_member name read j = find_member name j >>= value_or_none name read

abbrev pub nothing_or_outdated : List ℕ → Option Json → Reading ⊤
nothing_or_outdated name None = Ok tt
nothing_or_outdated name (Some j) = at_step name (refusal Outdated)

-- a member of an older form, which may not be there
abbrev pub absent_member : List ℕ → Json → Reading ⊤
absent_member name j = find_member name j >>= nothing_or_outdated name

abbrev pub name_and_value : Members → Reading (List ℕ × Json)
name_and_value (member name j no_members) = Ok (name, j)
name_and_value ms = refusal NotOneMember

-- the name and the value of the only member
abbrev pub only_member : Json → Reading (List ℕ × Json)
only_member j = members j >>= name_and_value
