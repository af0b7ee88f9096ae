-- Laws of listings, of futures and streams, of flat types, and of the types that hold strings or lists: no other values
-- follow their rules.
use Rattle.std.specs.Prelude.{Bool, List}
use Rattle.wc_resolve.specs.Contents.{text_of, text_rule}
use Rattle.wc_resolve.specs.Flat.{flat_of, flat_rule}
use Rattle.wc_resolve.specs.TypeRules.{Follows, IsOnlyFollowing}
use Rattle.wc_resolve.specs.Futures.{futures_of, futures_rule}
use Rattle.wc_resolve.specs.Live.{listing_of, listing_rule}
use Rattle.wc_resolve.specs.Views.{TypeView}

-- of listings of live types
abbrev pub ListingsUnique : List TypeView → Type 0
ListingsUnique types = IsOnlyFollowing listing_rule types (listing_of types)

-- of futures and streams
abbrev pub FuturesUnique : List TypeView → Type 0
FuturesUnique types = IsOnlyFollowing futures_rule types (futures_of types)

abbrev pub FlatTypesUnique : List TypeView → Type 0
FlatTypesUnique types = IsOnlyFollowing flat_rule types (flat_of types)

-- the types that hold strings, and those that hold strings or lists, follow the types that they contain
abbrev pub TextsFollow : List TypeView → Type 0
TextsFollow types = (lists : Bool) → Follows (text_rule lists) types (text_of lists types)

abbrev pub TextsUnique : List TypeView → Type 0
TextsUnique types = (lists : Bool) → IsOnlyFollowing (text_rule lists) types (text_of lists types)
