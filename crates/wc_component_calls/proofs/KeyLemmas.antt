-- What is asked about of texts as they are is asked about of their bytes.
use Rattle.std.proofs.Common.{◌≡◌, ℕ, Bool, ◌||◌, List, [], ◌∷◌, map, refl, ap, string_bytes}
use Rattle.std.specs.Prelude.{String}
use Rattle.std.specs.List.{list_any}
use Rattle.std.specs.declared.alloc.Global.{Global}
use Rattle.wc_why.specs.Keys.{asks_about}

pub asked_in_texts : (key : List ℕ) (texts : List (String Global)) → list_any (λ (t : String Global). asks_about key (string_bytes t)) texts
    ≡ list_any (asks_about key) (map string_bytes texts)
asked_in_texts key [] = refl
asked_in_texts key (t ∷ ts) = ap (λ (b : Bool). asks_about key (string_bytes t) || b) (asked_in_texts key ts)
