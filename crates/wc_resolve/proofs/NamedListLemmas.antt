-- Lists of values under names: the values are the same before and after the names are read as bytes.
use Rattle.std.proofs.Common.{◌≡◌, List, [], ◌∷◌, map, Option, String, refl, ap}
use Rattle.std.specs.List.{filter_map, cons_option}
use Rattle.std.specs.declared.alloc.Global.{Global}
use Rattle.wc_texts.specs.Names.{named_view}

pub named_values : {Y : Type 0} (xs : List (String Global × Y)) → map (λ f. f.1) (map named_view xs) ≡ map (λ f. f.1) xs
named_values [] = refl
named_values (x ∷ xs) = ap (λ rest. x.1 ∷ rest) (named_values xs)

pub named_options : {Y : Type 0} (xs : List (String Global × Option Y)) → filter_map (λ c. c.1) (map named_view xs) ≡ filter_map (λ c. c.1) xs
named_options [] = refl
named_options (x ∷ xs) = ap (λ rest. cons_option x.1 rest) (named_options xs)
