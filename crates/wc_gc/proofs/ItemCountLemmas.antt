-- A search finds no more items than there are.
use Rattle.std.proofs.Common.{◌≡◌, ◌≢◌, ℕ, ◌+◌, ◌<◌, ◌≤◌, List, length, map, get_or, refl, sym, ◌∙◌, ap, arith}
use Rattle.std.specs.Prelude.{All, AllPairs}
use Rattle.std.proofs.lemmas.Bool.{eqb-true}
use Rattle.std.proofs.lemmas.Bool.Decides.{Decides-eqb}
use Rattle.std.proofs.lemmas.Map.Made.{IsDistinct-from_AllPairs}
use Rattle.std.proofs.lemmas.Map.Steps.{length-le_from_distinct_below}
use Rattle.std.proofs.lemmas.Map.Views.{Contains-from_any}
use Rattle.std.proofs.lemmas.List.Elements.{All-map, All-weaker, All-contains}
use Rattle.std.proofs.lemmas.List.{length-map, get_or_default}
use Rattle.wc_read.specs.declared.operators.Space.{Space}
use Rattle.wc_read.specs.declared.operators.Space.TheVariants.{Types, Funcs, Tables, Memories, Globals}
use Rattle.wc_read.specs.Decoded.{DecodedModule, ItemIndex, size_of}
use Rattle.wc_gc.proofs.ExportLemmas.{get-map}

-- the items of all spaces, one space after another
abbrev pub total : DecodedModule → ℕ
total m = length m.types + (length m.funcs + (length m.tables + (length m.memories + length m.globals)))

abbrev offset : DecodedModule → Space → ℕ
offset m Types = 0
offset m Funcs = length m.types
offset m Tables = length m.types + length m.funcs
offset m Memories = length m.types + (length m.funcs + length m.tables)
offset m Globals = length m.types + (length m.funcs + (length m.tables + length m.memories))

abbrev number_of : DecodedModule → ItemIndex → ℕ
number_of m x = offset m x.0 + x.1

same_item_number : (m : DecodedModule) (a b : Space) (n k : ℕ) → n < size_of m a → k < size_of m b → offset m a + n ≡ offset m b + k → (a ≡ b) × (n ≡ k)
same_item_number m Types Types n k hn hk e = (refl, omega arith)
same_item_number m Types Funcs n k hn hk e = absurd (omega arith)
same_item_number m Types Tables n k hn hk e = absurd (omega arith)
same_item_number m Types Memories n k hn hk e = absurd (omega arith)
same_item_number m Types Globals n k hn hk e = absurd (omega arith)
same_item_number m Funcs Types n k hn hk e = absurd (omega arith)
same_item_number m Funcs Funcs n k hn hk e = (refl, omega arith)
same_item_number m Funcs Tables n k hn hk e = absurd (omega arith)
same_item_number m Funcs Memories n k hn hk e = absurd (omega arith)
same_item_number m Funcs Globals n k hn hk e = absurd (omega arith)
same_item_number m Tables Types n k hn hk e = absurd (omega arith)
same_item_number m Tables Funcs n k hn hk e = absurd (omega arith)
same_item_number m Tables Tables n k hn hk e = (refl, omega arith)
same_item_number m Tables Memories n k hn hk e = absurd (omega arith)
same_item_number m Tables Globals n k hn hk e = absurd (omega arith)
same_item_number m Memories Types n k hn hk e = absurd (omega arith)
same_item_number m Memories Funcs n k hn hk e = absurd (omega arith)
same_item_number m Memories Tables n k hn hk e = absurd (omega arith)
same_item_number m Memories Memories n k hn hk e = (refl, omega arith)
same_item_number m Memories Globals n k hn hk e = absurd (omega arith)
same_item_number m Globals Types n k hn hk e = absurd (omega arith)
same_item_number m Globals Funcs n k hn hk e = absurd (omega arith)
same_item_number m Globals Tables n k hn hk e = absurd (omega arith)
same_item_number m Globals Memories n k hn hk e = absurd (omega arith)
same_item_number m Globals Globals n k hn hk e = (refl, omega arith)

within : (m : DecodedModule) (a : Space) (n : ℕ) → n < size_of m a → offset m a + n < total m
within m Types n h = omega arith
within m Funcs n h = omega arith
within m Tables n h = omega arith
within m Memories n h = omega arith
within m Globals n h = omega arith

same_item : (m : DecodedModule) (x y : ItemIndex) → x.1 < size_of m x.0 → y.1 < size_of m y.0 → number_of m x ≡ number_of m y → x ≡ y
same_item m x y hx hy e =
    let p = same_item_number m x.0 y.0 x.1 y.1 hx hy e in
    let pair : Space → ℕ → ItemIndex = λ a b. (a, b) in
    ap (λ (a : Space). pair a x.1) p.0 ∙ ap (pair y.0) p.1

abbrev origin : ItemIndex
origin = (Types, 0)

numbers_differ : (m : DecodedModule) (found : List ItemIndex) → AllPairs (λ x y. x ≢ y) found → All (λ (x : ItemIndex). x.1 < size_of m x.0) found
    → AllPairs (λ x y. x ≢ y) (map (number_of m) found)
numbers_differ m found pairs there = λ i j d h k e.
    let l : length (map (number_of m) found) ≡ length found = length-map found (number_of m) in
    let kj : j < length found = omega arith in
    let ki : i < length found = omega arith in
    let read : (n : ℕ) → n < length (map (number_of m) found) → get_or (map (number_of m) found) n d ≡ number_of m (get_or found n origin) =
    (λ n b. get_or_default (map (number_of m) found) n d (number_of m origin) b ∙ sym (get-map (number_of m) found n origin)) in
    let lower : i < length (map (number_of m) found) = omega arith in
    pairs i j origin h kj (same_item m (get_or found i origin) (get_or found j origin) (there i origin ki) (there j origin kj)
    (sym (read i lower) ∙ (e ∙ read j k)))

-- items without repeats are at most as many as there are
pub bounded_found : (m : DecodedModule) (found : List ItemIndex) → AllPairs (λ x y. x ≢ y) found → All (λ (x : ItemIndex). x.1 < size_of m x.0) found
    → length found ≤ total m
bounded_found m found pairs there =
    let ks = map (number_of m) found in
    let small : All (λ (k : ℕ). k < total m) ks = All-map (λ (k : ℕ). k < total m) (number_of m) found
    (All-weaker (λ (x : ItemIndex). x.1 < size_of m x.0) (λ (x : ItemIndex). number_of m x < total m) (λ x h. within m x.0 x.1 h) found there) in
    let most : length ks ≤ total m = length-le_from_distinct_below ks (total m) (IsDistinct-from_AllPairs Decides-eqb ks (numbers_differ m found pairs there))
    (λ q h. All-contains (λ (k : ℕ). k < total m) ks q small (Contains-from_any (λ x y e. eqb-true x y e) q ks h)) in
    let l : length ks ≡ length found = length-map found (number_of m) in
    omega arith
