-- Names that are short enough for the boxes of a graph. Texts are lists of characters here.
use Rattle.std.specs.Prelude.{ℕ, nat_lt, true, cond, List, ◌++◌, codes, length, take}
use Rattle.std.specs.Char.{encode_utf8}
use Rattle.std.specs.List.{flat_map}
use Rattle.std.specs.Str.{chars}
use Rattle.wc_why_text.specs.RustNames.{plain}

-- the first 40 characters, and `..` where there are more
abbrev pub cut : List ℕ → List ℕ
cut cs = cond (nat_lt 40 (length cs)) (flat_map encode_utf8 (take 40 cs) ++ codes "..") (flat_map encode_utf8 cs)

-- the last two parts of a name that is read
abbrev pub short_name : List ℕ → List ℕ
short_name name = cut (plain true (chars name))
