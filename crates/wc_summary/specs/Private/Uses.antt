-- What an adapter imports of interfaces, as the code has it.
use Rattle.std.specs.Prelude.{◌≡◌, ◌≢◌, ◌⊎◌, ℕ, Bool, true, false, not, cond, List, [], ◌∷◌, filter, slice_index, unwrap_or, Some}
use Rattle.std.specs.List.{slice_get}
use Rattle.std.specs.Str.{bytes_eq}
use Rattle.wc_graph.specs.Positions.{sets_view}
use Rattle.wc_graph.specs.declared.alone.Alone.{Alone}
use Rattle.wc_summary.specs.Leads.{names_at}
use Rattle.wc_summary.specs.Summary.{AdapterPartView}
use Rattle.wc_summary.specs.Entries.{EntriesView, Lists, parts_of}
use Rattle.wc_summary.specs.Private.Entries.{with_part}
use Rattle.wc_summary.specs.declared.uses.Uses.{Uses}

-- of the interface at a position: the exports that lead there, and what is live for these alone
abbrev pub led_at : Uses → ℕ → List ℕ
led_at u k = unwrap_or (slice_get (sets_view u.led.items) k) []

abbrev pub no_items : Alone
no_items = record { items = 0; size = 0 }

abbrev pub alone_at : Uses → ℕ → Alone
alone_at u k = unwrap_or (slice_get u.alone.items k) no_items

-- the main module imports an export, or doesn't
abbrev pub picks : Bool → (List ℕ → Bool) → List ℕ → Bool
picks b is_wanted e = cond b (is_wanted e) (not (is_wanted e))

abbrev pub exports_at : Bool → List (List ℕ) → (List ℕ → Bool) → List ℕ → List (List ℕ)
exports_at b names is_wanted positions = filter (picks b is_wanted) (names_at names positions)

abbrev pub part_at : List ℕ → List (List ℕ) → (List ℕ → Bool) → Uses → ℕ → AdapterPartView
part_at name names is_wanted u k = record {
  adapter = name;
  is_library = u.is_library;
  imports = slice_index u.counts.items k;
  exports = exports_at true names is_wanted (led_at u k);
  stays = exports_at false names is_wanted (led_at u k);
  roots = [];
  functions = (alone_at u k).items;
  bytes = (alone_at u k).size;
}

-- a part was noted of an interface
pub record IsPushed (interface : List ℕ) (p : AdapterPartView) (old new : EntriesView) : Type 0 where
  pub listed : Lists old new (interface ∷ [])
  pub each : (name : List ℕ) → parts_of new name ≡ cond (bytes_eq name interface) (with_part p (parts_of old name)) (parts_of old name)

-- of each of these interfaces the part at its position was noted
pub record ArePushed (part : ℕ → AdapterPartView) (interfaces : List (List ℕ)) (old new : EntriesView) : Type 0 where
  pub listed : Lists old new interfaces
  pub each : (name : List ℕ) → (((u : ℕ) → slice_get interfaces u ≢ Some name) × (parts_of new name ≡ parts_of old name))
      ⊎ ((u : ℕ) × (slice_get interfaces u ≡ Some name) × (parts_of new name ≡ with_part (part u) (parts_of old name)))
