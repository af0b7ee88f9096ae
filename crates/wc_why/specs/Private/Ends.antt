-- Where items are by modules, as the code finds it.
use Rattle.std.specs.Prelude.{ℕ, List, Option}
use Rattle.std.specs.List.{slice_get}
use Rattle.std.specs.Option.{option_and_then, option_map}
use Rattle.wc_why.specs.declared.component.End.{End}

abbrev pub end_by : ℕ × ℕ → ℕ → End
end_by y k = record { «module» = y.0; item = k }

abbrev pub end_at : List (ℕ × ℕ) → List ℕ → ℕ → Option End
end_at items own k = option_and_then (λ (y : ℕ × ℕ). option_map (end_by y) (slice_get own k)) (slice_get items k)

abbrev pub end_of : List (ℕ × ℕ) → List ℕ → Option ℕ → Option End
end_of items own end = option_and_then (end_at items own) end
