-- Where the mark begins with which a name ends.
use Rattle.std.proofs.Common.{◌≡◌, ℕ, ◌+◌, ◌<◌, suc, Bool, true, false, cond, List, [], ◌∷◌, length, drop, take, get_or, Option, Some, None, option_map, refl, sym, ◌∙◌, ap, arith, codes, ◌&&◌, ◌++◌, ◌-◌}
use Rattle.std.proofs.lemmas.Bool.{and_parts, false≢true}
use Rattle.std.proofs.lemmas.List.{drop_at, drop_more, length-append, take-append-drop, take_at}
use Rattle.std.proofs.lemmas.Slice.Eq.{bytes_eq-Decides}
use Rattle.std.specs.Str.{bytes_eq}
use Rattle.wc_texts.specs.Finds.{Finds}
use Rattle.wc_component_file.specs.Renamed.{HaveOriginals, IsRenamed, is_mark, is_number, is_numbered, mark_start, original_import_name}

-- a mark begins with a blank
mark_head : (c : ℕ) (cs : List ℕ) → is_mark (c ∷ cs) ≡ true → c ≡ 32
unfolding is_mark
mark_head c cs h =
    let same : c ∷ take 2 cs ≡ codes " [v" = (bytes_eq-Decides (take 3 (c ∷ cs)) (codes " [v")).0 (and_parts (bytes_eq (take 3 (c ∷ cs)) (codes " [v")) (is_numbered (drop 3 (c ∷ cs))) h).0 in
    cc same

begins_here : (b : Bool) (o : Option ℕ) (c : ℕ) (cs : List ℕ) (k : ℕ) → cond b (Some 0) (option_map suc o) ≡ Some k → (b ≡ true → c ≡ 32)
    → ((j : ℕ) → o ≡ Some j → (j < length cs) × (get_or cs j 0 ≡ 32)) → (k < length (c ∷ cs)) × (get_or (c ∷ cs) k 0 ≡ 32)
begins_here true o c cs k e head rest =
    let zero : k ≡ 0 = cc e in
    rw zero (omega arith, head refl)
begins_here false None c cs k e head rest = absurd (let bad : ⊥ = cc e in bad)
begins_here false (Some j) c cs k e head rest =
    let more = rest j refl in
    let next : k ≡ suc j = cc e in
    rw next (omega (arith, more.0), more.1)

pub mark_begins : (text : List ℕ) (k : ℕ) → mark_start text ≡ Some k → (k < length text) × (get_or text k 0 ≡ 32)
mark_begins [] k e = absurd (let bad : ⊥ = cc e in bad)
mark_begins (c ∷ cs) k e = begins_here (is_mark (c ∷ cs)) (mark_start cs) c cs k e (mark_head c cs) (λ j f. mark_begins cs j f)

-- ---- one byte more is passed

moved : (i : ℕ) (o : Option ℕ) → option_map (λ k. i + k) (option_map suc o) ≡ option_map (λ k. (i + 1) + k) o
moved i None = refl
moved i (Some k) = ap Some (omega arith)

-- the text from a place on, by its first byte
at_place : (text : List ℕ) (i : ℕ) (b : Bool) → i < length text → is_mark (drop i text) ≡ b
    → mark_start (drop i text) ≡ cond b (Some 0) (option_map suc (mark_start (drop (i + 1) text)))
at_place text i b lt is =
    let next = drop_more text i 0 lt in
    ap mark_start next ∙ ap (λ c. cond c (Some 0) (option_map suc (mark_start (drop (i + 1) text)))) (ap is_mark (sym next) ∙ is)

pub start_more : (text : List ℕ) (i : ℕ) → i < length text → mark_start text ≡ option_map (λ k. i + k) (mark_start (drop i text)) → is_mark (drop i text) ≡ false
    → mark_start text ≡ option_map (λ k. (i + 1) + k) (mark_start (drop (i + 1) text))
start_more text i lt so is = so ∙ (ap (option_map (λ k. i + k)) (at_place text i false lt is) ∙ moved i (mark_start (drop (i + 1) text)))

-- ---- a name with a mark after it

-- a mark, by its digits
mark_cut : (text : List ℕ) → is_mark text ≡ true → (digits : List ℕ) × (text ≡ codes " [v" ++ (digits ++ codes "]")) × (is_number digits ≡ true)
unfolding is_mark is_numbered
mark_cut text h =
    let rest = drop 3 text in
    let n = length rest - 1 in
    let parts = and_parts (bytes_eq (take 3 text) (codes " [v")) (bytes_eq (drop n rest) (codes "]") && is_number (take n rest)) h in
    let ends = and_parts (bytes_eq (drop n rest) (codes "]")) (is_number (take n rest)) parts.1 in
    let head = (bytes_eq-Decides (take 3 text) (codes " [v")).0 parts.0 in
    let last = (bytes_eq-Decides (drop n rest) (codes "]")).0 ends.0 in
    let tail : rest ≡ take n rest ++ codes "]" = sym (take-append-drop n rest) ∙ ap (λ z. take n rest ++ z) last in
    (take n rest, sym (take-append-drop 3 text) ∙ (ap (λ z. z ++ rest) head ∙ ap (λ z. codes " [v" ++ z) tail), ends.1)

numbered_made : (digits : List ℕ) → is_number digits ≡ true → is_numbered (digits ++ codes "]") ≡ true
unfolding is_numbered
numbered_made digits h =
    let text = digits ++ codes "]" in
    let n = length text - 1 in
    let size : length digits ≡ n = omega (arith, length-append digits (codes "]")) in
    ap (λ z. bytes_eq z (codes "]") && is_number (take n text)) (drop_at digits (codes "]") n size)
    ∙ (ap is_number (take_at digits (codes "]") n size) ∙ h)

mark_made : (digits : List ℕ) → is_number digits ≡ true → is_mark (codes " [v" ++ (digits ++ codes "]")) ≡ true
unfolding is_mark
mark_made digits h = numbered_made digits h

-- what is found is a mark
mark_at : (b : Bool) (o : Option ℕ) (c : ℕ) (cs : List ℕ) (k : ℕ) → is_mark (c ∷ cs) ≡ b → cond b (Some 0) (option_map suc o) ≡ Some k
    → ((j : ℕ) → o ≡ Some j → is_mark (drop j cs) ≡ true) → is_mark (drop k (c ∷ cs)) ≡ true
mark_at true o c cs k is e rest =
    let first : k ≡ 0 = cc e in
    rw first is
mark_at false None c cs k is e rest = absurd (let bad : ⊥ = cc e in bad)
mark_at false (Some j) c cs k is e rest =
    let next : k ≡ suc j = cc e in
    rw next (rest j refl)

mark_found : (text : List ℕ) (k : ℕ) → mark_start text ≡ Some k → is_mark (drop k text) ≡ true
mark_found [] k e = absurd (let bad : ⊥ = cc e in bad)
mark_found (c ∷ cs) k e = mark_at (is_mark (c ∷ cs)) (mark_start cs) c cs k refl e (λ j f. mark_found cs j f)

-- where none is found, no text has one at its end
no_mark : is_mark [] ≡ false
unfolding is_mark
no_mark = refl

none_left : (b : Bool) (o : Option ℕ) → cond b (Some 0) (option_map suc o) ≡ None → (b ≡ false) × (o ≡ None)
none_left true o e = absurd (let bad : ⊥ = cc e in bad)
none_left false None e = (refl, refl)
none_left false (Some j) e = absurd (let bad : ⊥ = cc e in bad)

no_start : (original mark : List ℕ) → is_mark mark ≡ true → mark_start (original ++ mark) ≡ None → ⊥
no_start [] [] h e = false≢true (sym no_mark ∙ h)
no_start [] (c ∷ cs) h e = false≢true (sym (none_left (is_mark (c ∷ cs)) (mark_start cs) e).0 ∙ h)
no_start (x ∷ xs) mark h e = no_start xs mark h (none_left (is_mark (x ∷ (xs ++ mark))) (mark_start (xs ++ mark)) e).1

renamed_at : (name : List ℕ) (o : Option ℕ) → mark_start name ≡ o → Finds (option_map (λ k. take k name) o) (IsRenamed name)
renamed_at name None e = λ original is. no_start original _ (mark_made is.digits is.decimal) (ap mark_start (sym is.cut) ∙ e)
renamed_at name (Some k) e =
    let mark = mark_cut (drop k name) (mark_found name k e) in
    record { digits = mark.0; cut = sym (take-append-drop k name) ∙ ap (λ z. take k name ++ z) mark.1; decimal = mark.2 }

pub originals : HaveOriginals
unfolding original_import_name
originals name = renamed_at name (mark_start name) refl
