-- Names in place of one that there is not, and the worlds of a document, as a text.
use Rattle.std.specs.Prelude.{◌≡◌, ℕ, ◌-◌, ◌==◌, nat_le, List, ◌++◌, length, codes, if◌then◌else◌, Option, String, string_bytes}
use Rattle.std.specs.List.{flat_map, range_with_len}
use Rattle.std.specs.Option.{option_map}
use Rattle.std.specs.declared.alloc.Global.{Global}
use Rattle.wc_json.specs.Document.{DocumentView}
use Rattle.wc_options.specs.Listing.{listed_name, listing_text, more_text, most_listed}
use Rattle.wc_selection.specs.Worlds.{world_name}
use Rattle.wcplan_inputs.specs.Nearest.{first_near}

-- what names there are is said in place of one that there is not, and which is the first that is near it
abbrev pub IsListedNear : List (List ℕ) → List ℕ → String Global → Option (String Global) → Type 0
IsListedNear names name listing nearest = (string_bytes listing ≡ listing_text names) × (option_map string_bytes nearest ≡ first_near name names)

-- so many of the first worlds, by their full names
abbrev pub listed_worlds : DocumentView → ℕ → List ℕ
listed_worlds d count = flat_map (λ index. listed_name (world_name d index)) (range_with_len 0 count)

-- the first worlds, and how many there are more
abbrev pub world_listing : DocumentView → List ℕ
world_listing d =
    if length d.parts.worlds == 0 then codes " none"
    else if nat_le (length d.parts.worlds) most_listed then listed_worlds d (length d.parts.worlds)
    else (listed_worlds d most_listed ++ more_text (length d.parts.worlds - most_listed))
