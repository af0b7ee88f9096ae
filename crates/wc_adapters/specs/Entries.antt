-- What a world imports or exports, as contracts see it: keys with their items, in order.
use Rattle.std.specs.Prelude.{ℕ, ◌+◌, List, map, drop}
use Rattle.std.specs.HashMap.{HashMap}
use Rattle.wc_resolve.specs.declared.worlds.WorldItem.{WorldItem}
use Rattle.wc_resolve.specs.declared.worlds.WorldKey.{WorldKey}
use Rattle.wc_resolve.specs.Views.{KeyView, ItemView, world_entry}

abbrev pub Entries : Type 0
Entries = List (KeyView × ItemView)

abbrev pub entry_keys : Entries → List KeyView
entry_keys entries = map (λ (x : KeyView × ItemView). x.0) entries

module _ {S : Type 0} where
  abbrev pub entries_of : HashMap WorldKey WorldItem S → Entries
  entries_of m = map world_entry m.entries

  -- the entries after the one at an index
  abbrev pub entries_after : HashMap WorldKey WorldItem S → ℕ → Entries
  entries_after m index = drop (index + 1) (entries_of m)
