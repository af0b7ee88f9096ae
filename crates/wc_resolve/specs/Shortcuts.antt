-- Shortcuts from types to others below them, whose futures and streams are among theirs.
use Rattle.std.specs.Prelude.{◌≡◌, ℕ, ◌<◌, ◌+◌, min, List, ◌++◌, length, slice_index_or, Option, None}
use Rattle.std.specs.Option.{IfSome}
use Rattle.wc_resolve.specs.declared.shortcuts.Shortcut.{Shortcut}
use Rattle.wc_resolve.specs.Futures.{futures_of, max_count}
use Rattle.wc_resolve.specs.Live.{listing_of}
use Rattle.wc_resolve.specs.Views.{TypeView}

-- the futures and streams of a type are some, then those of the target, then others; the first are so many, counted up to
-- the limit; and fewer types are below the target
pub record IsShortcut (types : List TypeView) (x : ℕ) (s : Shortcut) : Type 0 where
  pub front : List ℕ
  pub back : List ℕ
  pub split : futures_of types x ≡ front ++ (futures_of types s.target.0 ++ back)
  pub counted : s.before ≡ min (length front) max_count
  pub within : s.target.0 < length types
  pub shorter : length (listing_of types s.target.0) < length (listing_of types x)

-- the shortcut of the type at an index, if it has one
abbrev pub shortcut_at : List (Option Shortcut) → ℕ → Option Shortcut
shortcut_at shortcuts x = slice_index_or shortcuts x None

-- each type has a shortcut or none
abbrev pub AreShortcuts : List TypeView → List (Option Shortcut) → Type 0
AreShortcuts types shortcuts = (x : ℕ) → IfSome (shortcut_at shortcuts x) (IsShortcut types x)

-- one shortcut after another is this one
abbrev pub IsAfter : Shortcut → Shortcut → Shortcut → Type 0
IsAfter first second both = (both.target ≡ second.target) × (both.before ≡ min (first.before + second.before) max_count)
