-- The imports that are asked about, as the code finds them.
use Rattle.std.specs.Prelude.{◌≡◌, ◌++◌, ℕ, List, map}
use Rattle.wc_world.specs.Views.{ComponentWorldView}
use Rattle.wc_ways.specs.Wanted.{WantedView}
use Rattle.wc_ways.specs.Private.AskedKeys.{IsAskedOf}
use Rattle.wc_ways.specs.Private.Wanted.{wanted_view}
use Rattle.wc_ways.specs.declared.asked_keys.AskedKeys.{AskedKeys}
use Rattle.wc_ways.specs.declared.wanted.Wanted.{Wanted}

-- what is said of a world and a key, where these are what the key asks about
abbrev pub WhereAsked : AskedKeys → (ComponentWorldView → List ℕ → Type 0) → Type 0
WhereAsked keys Is = (w : ComponentWorldView) (key : List ℕ) → IsAskedOf w key keys → Is w key

-- what is found was appended
abbrev pub Finds : List Wanted → List Wanted → List WantedView → Type 0
Finds old new found = map wanted_view new ≡ map wanted_view old ++ found
