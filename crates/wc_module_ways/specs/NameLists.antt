-- Lists of names under names.
use Rattle.std.specs.Prelude.{◌≡◌, ℕ, List, [], ◌∷◌, ◌++◌, map, cond}
use Rattle.std.specs.Borrow.{Bor}
use Rattle.std.specs.Map.{lookup}
use Rattle.std.specs.Option.{option_map_or}
use Rattle.std.specs.Str.{bytes_eq}
use Rattle.std.specs.declared.alloc.Global.{Global}
use Rattle.std.specs.declared.vec.Vec.{Vec}
use Rattle.wc_why.specs.Texts.{text_of}
use Rattle.wc_module_ways.specs.Names.{NamePair, names_under}

abbrev pub NameLists : Type 0
NameLists = List (Bor (List ℕ) × Vec (Bor (List ℕ)) Global)

-- the names that are listed under a key
abbrev pub listed : NameLists → List ℕ → List (List ℕ)
listed lists key =
    option_map_or (λ (v : Vec (Bor (List ℕ)) Global). map text_of v.items) (lookup (λ (k : Bor (List ℕ)). bytes_eq key k.now) lists) []

-- under each key are the names that come with it
abbrev pub AreListed : List NamePair → NameLists → Type 0
AreListed pairs lists = (key : List ℕ) → listed lists key ≡ names_under pairs key

-- a name was listed under a key, after the others of that key
abbrev pub ListsUnder : List ℕ → List ℕ → NameLists → NameLists → Type 0
ListsUnder key name old new = (q : List ℕ) → listed new q ≡ listed old q ++ cond (bytes_eq key q) (name ∷ []) []
