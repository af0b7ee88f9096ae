-- What is asked about of keys as they are is asked about of their texts.
use Rattle.std.proofs.Common.{◌≡◌, ◌∙◌, ℕ, Bool, ◌||◌, List, [], ◌∷◌, map, find, Option, Some, None, String, Global, refl, sym, ap, string_bytes, inl, inr}
use Rattle.std.specs.Borrow.{Bor}
use Rattle.std.specs.List.{list_any}
use Rattle.std.specs.Option.{option_map}
use Rattle.std.proofs.lemmas.Bool.{cases_Bool}
use Rattle.wc_resolve.specs.declared.worlds.WorldKey.{WorldKey}
use Rattle.wc_selection.specs.Keys.{named_key, texts_of}
use Rattle.wc_why.specs.Keys.{asks_about}

abbrev pub Key : Type 0
Key = WorldKey × String Global

abbrev Keys : Type 0
Keys = List Key

pub asked_in : (key : List ℕ) (keys : Keys) → list_any (λ (k : Key). asks_about key (string_bytes k.1)) keys
    ≡ list_any (asks_about key) (texts_of (map named_key keys))
asked_in key [] = refl
asked_in key (k ∷ ks) = ap (λ (b : Bool). asks_about key (string_bytes k.1) || b) (asked_in key ks)

pub found_in : (f : List ℕ → Bool) (keys : Keys) → option_map (λ (k : Key). string_bytes k.1) (find (λ (k : Key). f (string_bytes k.1)) keys)
    ≡ find f (texts_of (map named_key keys))
found_in f [] = refl
found_in f (k ∷ ks) = elim (cases_Bool (f (string_bytes k.1))) [
  | inl on ↦ rw on refl
  | inr off ↦ rw off (found_in f ks)
]

-- the text of the key that was found, as the code has it

texts_by : (z : Option (Bor Key)) → option_map (λ (k : Bor Key). string_bytes k.now.1) z ≡ option_map (λ (k : Key). string_bytes k.1) (option_map (λ (k : Bor Key). k.now) z)
texts_by None = refl
texts_by (Some k) = refl

pub found_text : (f : List ℕ → Bool) (keys : Keys) (r s : Option (Bor Key)) → r ≡ s → option_map (λ (k : Bor Key). k.now) r ≡ find (λ (k : Key). f (string_bytes k.1)) keys
    → option_map (λ (k : Bor Key). string_bytes k.now.1) s ≡ find f (texts_of (map named_key keys))
found_text f keys r s is found =
    texts_by s
    ∙ (ap (λ (z : Option (Bor Key)). option_map (λ (k : Key). string_bytes k.1) (option_map (λ (k : Bor Key). k.now) z)) (sym is)
    ∙ (ap (option_map (λ (k : Key). string_bytes k.1)) found ∙ found_in f keys))
