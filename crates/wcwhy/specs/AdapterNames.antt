-- The names of adapters, and those that options are about.
use Rattle.std.specs.Prelude.{◌≡◌, ℕ, List, All, Contains, ⊤, string_bytes}
use Rattle.std.specs.Borrow.{Bor}
use Rattle.wc_options.specs.Listing.{listing_text}
use Rattle.wc_maps.specs.Texts.{AreDistinct, IsFirstMissing, IsFirstRepeated}
use Rattle.wcwhy.specs.declared.fault.WhyFault.{WhyFault}
use Rattle.wcwhy.specs.declared.fault.WhyFault.TheVariants.{Memory, RepeatedAdapter, NoAdapter}

module _ (names asked : List (List ℕ)) where
  -- adapters have names of their own, and each that something is asked of is there
  abbrev pub AreAdaptersNamed : Type 0
  AreAdaptersNamed = AreDistinct names × All (Contains names) asked

  -- why not: the first name that is there before; or the first that is asked of and not there, and what adapters there are
  abbrev pub IsNamesCause : WhyFault → Type 0
  IsNamesCause Memory = ⊤
  IsNamesCause (RepeatedAdapter name) = IsFirstRepeated names name.now
  IsNamesCause (NoAdapter name listing) = AreDistinct names × IsFirstMissing asked names name.now × (string_bytes listing ≡ listing_text names)
  IsNamesCause f = ⊥

-- the fault of a name that is none of some adapters'
abbrev pub IsNoAdapter : List (List ℕ) → Bor (List ℕ) → WhyFault → Type 0
IsNoAdapter names name Memory = ⊤
IsNoAdapter names name (NoAdapter n listing) = (n ≡ name) × (string_bytes listing ≡ listing_text names)
IsNoAdapter names name f = ⊥
