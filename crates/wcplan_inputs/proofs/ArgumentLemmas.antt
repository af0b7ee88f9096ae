-- Files of a command that are standard input.
use Rattle.std.proofs.Common.{◌≡◌, ◌∙◌, ap, arith, cond, false, filter, length, List, map, nat_eq, nat_lt, suc, sym, true, ◌∷◌, Bool, ℕ}
use Rattle.std.proofs.lemmas.Bool.{le-ltb}
use Rattle.std.specs.Borrow.{Bor}
use Rattle.wc_options.proofs.AdapterLemmas.{Pairs, none_more, standard_paths}
use Rattle.wc_maps.specs.Texts.{second_parts, text_pair}
use Rattle.wc_options.specs.Adapters.{is_standard}

-- so many adapters are, beside the worlds and the main module
abbrev pub tested : Bool → Bool → ℕ → Bool
tested true true n = false
tested true false n = nat_eq n 0
tested false true n = nat_eq n 0
tested false false n = nat_lt n 2

counted : (x y : Bool) (w m : List ℕ) (rest : List (List ℕ)) (n : ℕ) → n ≡ length rest
    → tested x y n ≡ nat_lt (length (cond x (w ∷ cond y (m ∷ rest) rest) (cond y (m ∷ rest) rest))) 2
counted true true w m rest n is = sym (le-ltb (suc (suc (length rest))) 2 (omega arith))
counted true false w m rest n is = ap (λ k. nat_eq k 0) is ∙ none_more (length rest)
counted false true w m rest n is = ap (λ k. nat_eq k 0) is ∙ none_more (length rest)
counted false false w m rest n is = ap (λ k. nat_lt k 2) is

-- one of them is at most
pub apart : (w m : List ℕ) (pairs passed : Pairs) (x y : Bool) (n : ℕ) → is_standard w ≡ x → is_standard m ≡ y → passed ≡ pairs
    → n ≡ length (filter (λ (a : Bor (List ℕ) × Bor (List ℕ)). is_standard a.1.now) passed)
    → tested x y n ≡ nat_lt (length (filter is_standard (w ∷ m ∷ second_parts (map text_pair pairs)))) 2
apart w m pairs passed x y n first second same many =
    let rest = filter is_standard (second_parts (map text_pair pairs)) in
    let all = ap (λ (l : Pairs). length (filter (λ (a : Bor (List ℕ) × Bor (List ℕ)). is_standard a.1.now) l)) same in
    counted x y w m rest n (many ∙ all ∙ sym (standard_paths pairs))
    ∙ (λ i. nat_lt (length (cond (sym first i) (w ∷ cond (sym second i) (m ∷ rest) rest) (cond (sym second i) (m ∷ rest) rest))) 2)
