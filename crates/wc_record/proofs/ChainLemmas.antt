-- Lists of chains' trees, whose values are seen as they are.
use Rattle.std.proofs.Common.{◌≡◌, ℕ, List, [], ◌∷◌, map, Option, refl, ap}
use Rattle.std.specs.Borrow.{Bor}
use Rattle.std.specs.Option.{option_map}
use Rattle.json.specs.Json.{Json, string}
use Rattle.wc_texts.specs.Shapes.{array_of, nullable_json}
use Rattle.wc_record.specs.Chains.{name_json}
use Rattle.wc_record.proofs.ShapeLemmas.{nullable_same}

nullables : {A : Type 0} (json : A → Json) (xs : List (Option A))
    → map (nullable_json json) (map (option_map (λ (x : A). x)) xs) ≡ map (nullable_json json) xs
nullables json [] = refl
nullables json (o ∷ os) = λ i. nullable_same json o i ∷ nullables json os i

pub nullables_same : {A : Type 0} (json : A → Json) (xs : List (Option A))
    → array_of (map (nullable_json json) (map (option_map (λ (x : A). x)) xs)) ≡ array_of (map (nullable_json json) xs)
nullables_same json xs = ap array_of (nullables json xs)

names : (xs : List (Bor (List ℕ))) → map string (map (λ (s : Bor (List ℕ)). s.now) xs) ≡ map name_json xs
names [] = refl
names (x ∷ xs) = ap (λ js. string x.now ∷ js) (names xs)

pub names_same : (xs : List (Bor (List ℕ))) → array_of (map string (map (λ (s : Bor (List ℕ)). s.now) xs)) ≡ array_of (map name_json xs)
names_same xs = ap array_of (names xs)
