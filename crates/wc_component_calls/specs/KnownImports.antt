-- Which keys ask about an import of a world.
use Rattle.std.specs.Prelude.{ℕ, Bool, ◌||◌, List, codes}
use Rattle.std.specs.List.{list_any}
use Rattle.std.specs.Str.{bytes_eq}
use Rattle.wc_encoder.specs.EncoderParts.{EncoderView}
use Rattle.wc_selection.specs.Keys.{import_keys, texts_of}
use Rattle.wc_ways.specs.Asked.{root_text}
use Rattle.wc_why.specs.Keys.{asks_about}

-- the texts of what the world of an encoder imports, in order
abbrev pub import_texts : EncoderView → List (List ℕ)
import_texts e = texts_of (import_keys e.resolve e.world)

-- a key asks about all, about what is the world's own, or about one of the imports with these texts
abbrev pub asks_about_known : List ℕ → List (List ℕ) → Bool
asks_about_known key imports = bytes_eq key (codes "all") || (bytes_eq key root_text || list_any (asks_about key) imports)
