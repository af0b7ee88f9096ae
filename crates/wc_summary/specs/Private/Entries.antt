-- What changes of an interface where one thing more is noted of it.
use Rattle.std.specs.Prelude.{ℕ, ◌+◌, ◌-◌, ◌^◌, min, List, [], ◌∷◌, ◌++◌, length, cond, nat_eq, Some, String, slice_get}
use Rattle.std.specs.Borrow.{Bor}
use Rattle.std.specs.Option.{option_eq}
use Rattle.std.specs.declared.alloc.Global.{Global}
use Rattle.wc_summary.specs.Summary.{AdapterPartView, EntryView, PartsView, entry_view}
use Rattle.wc_summary.specs.Entries.{with_adapters}
use Rattle.wc_summary.specs.declared.summary.Entry.{Entry}

abbrev pub entry_shown : Bor (String Global) × Bor Entry → EntryView
entry_shown e = entry_view (e.0.now, e.1.now)

-- one import of the main module more, as far as a number of 64 bits counts
abbrev pub counted : PartsView → PartsView
counted p = record { main = record { imports = min (p.main.imports + 1) (2 ^ 64 - 1); by = p.main.by }; adapters = p.adapters; types = p.types }

-- one function more, unless it is the last
abbrev pub with_namer : List ℕ → ℕ → List ℕ
with_namer by index = cond (option_eq nat_eq (slice_get by (length by - 1)) (Some index)) by (by ++ index ∷ [])

abbrev pub named_by : ℕ → PartsView → PartsView
named_by index p = record { main = record { imports = p.main.imports; by = with_namer p.main.by index }; adapters = p.adapters; types = p.types }

abbrev pub with_part : AdapterPartView → PartsView → PartsView
with_part part p = with_adapters (part ∷ []) p
