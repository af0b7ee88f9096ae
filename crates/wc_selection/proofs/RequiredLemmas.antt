-- The texts by which keys of exports are chosen for a module.
use Rattle.std.proofs.Common.{◌≡◌, ℕ, ◌+◌, ◌<◌, ◌==◌, Bool, true, false, not, cond, ◌&&◌, ◌||◌, List, [], ◌∷◌, ◌++◌, map, filter, length, take, get_or, Option, Some, None, Result, Ok, Err, IfOk, refl, sym, ◌∙◌, ap, append-nil, arith}
use Rattle.std.proofs.lemmas.Bool.Decides.{nat_tests}
use Rattle.std.proofs.lemmas.Grind.{common_steps}
use Rattle.std.proofs.lemmas.List.{map-append}
use Rattle.std.proofs.lemmas.List.Elements.{filter-append}
use Rattle.std.specs.Borrow.{Bor}
use Rattle.std.specs.List.{list_any}
use Rattle.std.specs.Str.{bytes_eq}
use Rattle.wc_maps.proofs.ListLemmas.{passed_more}
use Rattle.wc_selection.specs.Keys.{NamedKey}
use Rattle.wc_selection.specs.ModuleKeys.{is_pair, is_required, is_required_of_main, required_keys}
use Rattle.wc_selection.specs.RequiredTexts.{exporter_texts, gives_keys, has_any, is_required_in, required_in, texts_or_seconds, texts_under}
use Rattle.wc_selection.specs.Requests.{RequestValue}
use Rattle.wc_maps.specs.Texts.{HasTexts, is_in, second_parts, text_of, text_pair}

abbrev pub Pair : Type 0
Pair = Bor (List ℕ) × Bor (List ℕ)

-- a pair more, which has the first text or not
pub under_more : (first : List ℕ) (pairs : List Pair) (k : ℕ) (d : Pair) → k < length pairs
    → texts_under first (map text_pair (take (k + 1) pairs))
    ≡ texts_under first (map text_pair (take k pairs))
    ++ second_parts (cond (bytes_eq (get_or pairs k d).0.now first) (text_pair (get_or pairs k d) ∷ []) [])
under_more first pairs k d lt =
    let test = (λ (p : List ℕ × List ℕ). bytes_eq p.0 first) in
    let before = map text_pair (take k pairs) in
    let x = get_or pairs k d in
    ap (λ l. second_parts (filter test l)) (passed_more text_pair pairs k d lt)
    ∙ ap second_parts (filter-append test before (text_pair x ∷ []))
    ∙ map-append (λ (p : List ℕ × List ℕ). p.1) (filter test before) (cond (bytes_eq x.0.now first) (text_pair x ∷ []) [])

pub under_yes : (first : List ℕ) (pairs : List Pair) (k : ℕ) (d : Pair) (texts : List (Bor (List ℕ))) → k < length pairs
    → bytes_eq (get_or pairs k d).0.now first ≡ true → map text_of texts ≡ texts_under first (map text_pair (take k pairs))
    → map text_of (texts ++ (get_or pairs k d).1 ∷ []) ≡ texts_under first (map text_pair (take (k + 1) pairs))
under_yes first pairs k d texts lt same before =
    let x = get_or pairs k d in
    map-append text_of texts (x.1 ∷ []) ∙ ap (λ l. l ++ x.1.now ∷ []) before
    ∙ sym (under_more first pairs k d lt
    ∙ ap (λ b. texts_under first (map text_pair (take k pairs)) ++ second_parts (cond b (text_pair x ∷ []) [])) same)

pub under_no : (first : List ℕ) (pairs : List Pair) (k : ℕ) (d : Pair) (texts : List (Bor (List ℕ))) → k < length pairs
    → bytes_eq (get_or pairs k d).0.now first ≡ false → map text_of texts ≡ texts_under first (map text_pair (take k pairs))
    → map text_of texts ≡ texts_under first (map text_pair (take (k + 1) pairs))
under_no first pairs k d texts lt other before =
    before ∙ sym (under_more first pairs k d lt
    ∙ ap (λ b. texts_under first (map text_pair (take k pairs)) ++ second_parts (cond b (text_pair (get_or pairs k d) ∷ []) [])) other
    ∙ append-nil (texts_under first (map text_pair (take k pairs))))

-- texts that are copied
pub copied : {V E : Type 0} (items : V → List (Bor (List ℕ))) (r : Result V E) (texts : List (Bor (List ℕ))) (all : List (List ℕ))
    → map text_of texts ≡ all → IfOk r (λ v. items v ≡ texts) → IfOk r (λ v. map text_of (items v) ≡ all)
copied items (Ok v) texts all is h = ap (map text_of) h ∙ is
copied items (Err e) texts all is h = tt

-- a text is under a name where a pair has both
pub under_in : (name text : List ℕ) (pairs : List (List ℕ × List ℕ)) → is_in (texts_under name pairs) text ≡ list_any (is_pair name text) pairs
under_in name text [] = refl
under_in name text (p ∷ pairs) =
    step (bytes_eq p.0 name) (filter (λ (q : List ℕ × List ℕ). bytes_eq q.0 name) pairs) (list_any (is_pair name text) pairs) (under_in name text pairs)
  where
    step : (b : Bool) (rest : List (List ℕ × List ℕ)) (more : Bool) → is_in (second_parts rest) text ≡ more
        → is_in (second_parts (cond b (p ∷ rest) rest)) text ≡ ((b && bytes_eq p.1 text) || more)
    step true rest more h = ap (λ c. bytes_eq p.1 text || c) h
    step false rest more h = h

-- whether there are texts

pub none_listed : (texts : List (Bor (List ℕ))) (pairs : List (List ℕ × List ℕ)) → (length texts == 0) ≡ true
    → texts_or_seconds (map text_of texts) pairs ≡ second_parts pairs
none_listed [] pairs none = refl
none_listed (x ∷ xs) pairs none = absurd (grind (arith, nat_tests, common_steps))

pub some_listed : (texts : List (Bor (List ℕ))) (pairs : List (List ℕ × List ℕ)) → (length texts == 0) ≡ false
    → texts_or_seconds (map text_of texts) pairs ≡ map text_of texts
some_listed [] pairs some = absurd (grind (arith, nat_tests, common_steps))
some_listed (x ∷ xs) pairs some = refl

not_none : (n : ℕ) → ¬ (n ≡ 0) → (n == 0) ≡ false
not_none n other = grind (arith, nat_tests, common_steps)

pub any_listed : (texts : List (Bor (List ℕ))) → not (length texts == 0) ≡ has_any (map text_of texts)
any_listed [] = refl
any_listed (x ∷ xs) = ap not (not_none (length (x ∷ xs)) (λ (e : length (x ∷ xs) ≡ 0). omega (arith, e)))

-- what is chosen by these texts is what a request says

main_same : (q : RequestValue) (exports : List (List ℕ)) (set : List (List ℕ)) → HasTexts (texts_or_seconds exports q.adapter_exports) set
    → (text : List ℕ) → is_required_in set (has_any exports) text ≡ is_required_of_main q exports text
main_same q [] set has text = ap not (has text)
main_same q (x ∷ exports) set has text = has text

required_same : (q : RequestValue) (exporter : Option (List ℕ)) (set : List (List ℕ)) → HasTexts (exporter_texts q exporter) set
    → (text : List ℕ) → is_required_in set (gives_keys q exporter) text ≡ is_required q exporter text
required_same q None set has text = main_same q q.exports set has text
required_same q (Some name) set has text = has text ∙ under_in name text q.adapter_exports

pub filter_same : (f g : NamedKey → Bool) → ((k : NamedKey) → f k ≡ g k) → (keys : List NamedKey) → filter f keys ≡ filter g keys
filter_same f g same [] = refl
filter_same f g same (k ∷ keys) = λ i. cond (same k i) (k ∷ filter_same f g same keys i) (filter_same f g same keys i)

pub required_found : (q : RequestValue) (exporter : Option (List ℕ)) (set : List (List ℕ)) (gives : Bool) → gives ≡ gives_keys q exporter
    → HasTexts (exporter_texts q exporter) set → (keys : List NamedKey) → required_in set gives keys ≡ required_keys q exporter keys
required_found q exporter set gives is has keys =
    ap (λ b. required_in set b keys) is
    ∙ ap (map (λ (k : NamedKey). k.0)) (filter_same (λ (k : NamedKey). is_required_in set (gives_keys q exporter) k.1) (λ (k : NamedKey). is_required q exporter k.1)
    (λ k. required_same q exporter set has k.1) keys)
