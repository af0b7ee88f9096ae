-- What a subject of a fault of validation is written as, in its context.
use Rattle.std.specs.Prelude.{string_bytes}
use Rattle.std.specs.Option.{option_map}
use Rattle.json.specs.Json.{Json}
use Rattle.wc_validate.specs.Place.{SubjectView, difference_view}
use Rattle.wc_record.specs.Places.{subject_json}
use Rattle.wc_record.specs.declared.places.Context.{Context}

abbrev pub json_in : Context → SubjectView → Json
json_in c subject = subject_json (option_map string_bytes c.adapter.now) subject (option_map difference_view c.types.now)
