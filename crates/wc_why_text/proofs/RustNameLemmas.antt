-- Numbers, and parts after their lengths, read from the front of a text.
use Rattle.std.proofs.Common.{◌≡◌, ℕ, zero, suc, ◌+◌, ◌-◌, ◌*◌, ◌<◌, ◌≤◌, Bool, true, false, ◌||◌, cond, nat_eq, nat_lt, List, [], ◌∷◌, ◌++◌, map, take, drop, length, get_or, Option, Some, None, IfSome, refl, sym, ap, ◌∙◌, subst, append-nil, append_assoc, inl, inr, arith}
use Rattle.std.proofs.lemmas.Bool.{cases_Bool, eqb-false, le-ltb, ltb-false, lt-ltb}
use Rattle.std.proofs.lemmas.List.{at_drop_all, at_drop_more, length-drop, length-map, map-append, take-map}
use Rattle.std.proofs.lemmas.Option.{slice_get-map}
use Rattle.std.proofs.Math.Bool.{or-true}
use Rattle.std.specs.Borrow.{Bor}
use Rattle.std.specs.Char.{is_ascii_digit}
use Rattle.std.specs.List.{slice_get}
use Rattle.std.specs.Option.{option_map, option_map_or}
use Rattle.std.specs.Str.{bytes_eq}
use Rattle.wc_texts.specs.Prefixes.{rest_after}
use Rattle.wc_why.specs.Texts.{text_of}
use Rattle.wc_why_text.specs.RustNames.{first_part, is_end, is_hash, number_at, Parts, part_view, parts_in, parts_of, IsPut, first_piece, pieces_in, with_part, Symbol, code_from, with_code_digit, without_hash, without_last_hash}

-- the rest of a text after a prefix

pub stripped : {Y : Type 0} (f : List ℕ → Y) (other : Y) (prefix text rest : List ℕ) → bytes_eq (take (length prefix) text) prefix ≡ true
    → rest ≡ drop (length prefix) text → f rest ≡ option_map_or f (rest_after prefix text) other
stripped f other prefix text rest begins is =
    ap f is ∙ sym (ap (λ b. option_map_or f (cond b (Some (drop (length prefix) text)) None) other) begins)

pub unstripped : {Y : Type 0} (f : List ℕ → Y) (other : Y) (prefix text : List ℕ) → bytes_eq (take (length prefix) text) prefix ≡ false
    → other ≡ option_map_or f (rest_after prefix text) other
unstripped f other prefix text begins = sym (ap (λ b. option_map_or f (cond b (Some (drop (length prefix) text)) None) other) begins)

-- a number, digit by digit

number_grows : (n : ℕ) (cs : List ℕ) → n ≤ (number_at n cs).0
number_grows n [] = omega arith
number_grows n (c ∷ cs) =
    let next : ℕ = n * 10 + (c - 48) in
    let more : next ≤ (number_at next cs).0 = number_grows next cs in
    elim (cases_Bool (is_ascii_digit c)) [
      | inl on ↦ rw on (omega (arith, more))
      | inr off ↦ rw off (omega arith)
    ]

rest_short : (n : ℕ) (cs : List ℕ) → length (number_at n cs).1 ≤ length cs
rest_short n [] = omega arith
rest_short n (c ∷ cs) =
    let more : length (number_at (n * 10 + (c - 48)) cs).1 ≤ length cs = rest_short (n * 10 + (c - 48)) cs in
    elim (cases_Bool (is_ascii_digit c)) [
      | inl on ↦ rw on (omega (arith, more))
      | inr off ↦ rw off (omega arith)
    ]

module _ (text : List ℕ) (i n c : ℕ) (r : ℕ × List ℕ) (within : i < length text) (at : c ≡ get_or text i c) (so_far : number_at n (drop i text) ≡ r) where
  left : drop i text ≡ c ∷ drop (i + 1) text
  left = at_drop_more (λ l. l) text i c within ∙ ap (λ x. x ∷ drop (i + 1) text) (sym at)

  pub digit_read : (next : ℕ) → is_ascii_digit c ≡ true → next ≡ n * 10 + (c - 48) → number_at next (drop (i + 1) text) ≡ r
  digit_read next digit is =
      ap (λ m. number_at m (drop (i + 1) text)) is
      ∙ sym (ap (number_at n) left ∙ ap (λ b. cond b (number_at (n * 10 + (c - 48)) (drop (i + 1) text)) (n, c ∷ drop (i + 1) text)) digit)
      ∙ so_far

  pub number_ends : (rest : List ℕ) → is_ascii_digit c ≡ false → rest ≡ drop i text → (n, rest) ≡ r
  number_ends rest other is =
      ap (λ l. (n, l)) (is ∙ left)
      ∙ sym (ap (number_at n) left ∙ ap (λ b. cond b (number_at (n * 10 + (c - 48)) (drop (i + 1) text)) (n, c ∷ drop (i + 1) text)) other)
      ∙ so_far

  -- a number that is too large stays so
  pub too_large : (limit : ℕ) → is_ascii_digit c ≡ true → limit ≤ n * 10 + (c - 48) → limit ≤ r.0
  too_large limit digit large =
      let next : ℕ = n * 10 + (c - 48) in
      let grown : next ≤ (number_at next (drop (i + 1) text)).0 = number_grows next (drop (i + 1) text) in
      let same : (number_at next (drop (i + 1) text)).0 ≡ r.0 = ap (λ (p : ℕ × List ℕ). p.0) (digit_read next digit refl) in
      omega (arith, grown, same, large)

pub all_digits : (text : List ℕ) (i n : ℕ) (rest : List ℕ) (r : ℕ × List ℕ) → length text ≤ i → number_at n (drop i text) ≡ r → rest ≡ drop (length text) text → (n, rest) ≡ r
all_digits text i n rest r past so_far is =
    ap (λ l. (n, l)) (is ∙ at_drop_all (λ l. l) text (length text) (omega arith)) ∙ sym (at_drop_all (number_at n) text i past) ∙ so_far

-- the first part

pub none_of_length : (cs : List ℕ) → length cs < (number_at 0 cs).0 → None ≡ first_part cs
none_of_length cs long =
    let n : ℕ × List ℕ = number_at 0 cs in
    let short : length n.1 ≤ length cs = rest_short 0 cs in
    let less : nat_lt (length n.1) n.0 ≡ true = lt-ltb (length n.1) n.0 (omega (arith, short, long)) in
    sym (ap (λ b. cond (nat_eq n.0 0 || b) None (Some (take n.0 n.1, drop n.0 n.1))) less
    ∙ ap (λ b. cond b None (Some (take n.0 n.1, drop n.0 n.1))) (or-true (nat_eq n.0 0)))

neither : (x y : Bool) → (x || y) ≡ false → (x ≡ false) × (y ≡ false)
neither true y e = absurd cc
neither false y e = (refl, e)

shorter_by : (cs : List ℕ) (n : ℕ × List ℕ) (p : Bor (List ℕ) × Bor (List ℕ)) (b : Bool) → length n.1 ≤ length cs → (nat_eq n.0 0 || nat_lt (length n.1) n.0) ≡ b
    → ◌≡◌ {A = Option (List ℕ × List ℕ)} (Some (p.0.now, p.1.now)) (cond b None (Some (take n.0 n.1, drop n.0 n.1))) → length p.1.now < length cs
shorter_by cs n p true short test is = absurd cc
shorter_by cs n p false short test is =
    let tests = neither (nat_eq n.0 0) (nat_lt (length n.1) n.0) test in
    let some : n.0 ≡ 0 → ⊥ = eqb-false n.0 0 tests.0 in
    let long : n.0 ≤ length n.1 = ltb-false (length n.1) n.0 tests.1 in
    let after : p.1.now ≡ drop n.0 n.1 = ap (λ (o : Option (List ℕ × List ℕ)). option_map_or (λ (q : List ℕ × List ℕ). q.1) o []) is in
    let left : length p.1.now ≡ length n.1 - n.0 = ap length after ∙ length-drop n.0 n.1 in
    grind (arith, some, long, left, short)

pub part_shorter : (cs : List ℕ) (r : Option (Bor (List ℕ) × Bor (List ℕ))) → part_view r ≡ first_part cs → IfSome r (λ p. length p.1.now < length cs)
part_shorter cs None is = tt
part_shorter cs (Some p) is = shorter_by cs (number_at 0 cs) p _ (rest_short 0 cs) refl is

-- parts, one after another: those that were passed, and those of the rest

abbrev pub after_parts : List (List ℕ) → Parts → Parts
after_parts passed r = (passed ++ r.0, r.1)

pub record IsRead (text : List ℕ) (passed : List (List ℕ)) (rest : List ℕ) : Type 0 where
  pub fuel : ℕ
  pub enough : length rest ≤ fuel
  pub are : option_map (after_parts passed) (parts_in fuel rest) ≡ parts_of text

none_before : (o : Option Parts) → option_map (after_parts []) o ≡ o
none_before None = refl
none_before (Some r) = refl

pub read_none : (text : List ℕ) (passed : List (List ℕ)) → passed ≡ [] → IsRead text passed text
read_none text passed none =
    subst (λ l. IsRead text l text) (sym none) (record { fuel = length text; enough = omega arith; are = none_before (parts_in (length text) text) })

one_before : (passed : List (List ℕ)) (p : List ℕ) (o : Option Parts)
    → option_map (after_parts (passed ++ p ∷ [])) o ≡ option_map (after_parts passed) (option_map (λ (r : Parts). (p ∷ r.0, r.1)) o)
one_before passed p None = refl
one_before passed p (Some r) = ap (λ (l : List (List ℕ)). Some (l, r.1)) (append_assoc passed (p ∷ []) r.0)

read_part : (text : List ℕ) (passed : List (List ℕ)) (rest p after : List ℕ) (fuel : ℕ) → length rest ≤ fuel
    → option_map (after_parts passed) (parts_in fuel rest) ≡ parts_of text → is_end rest ≡ false
    → first_part rest ≡ Some (p, after) → length after < length rest → IsRead text (passed ++ p ∷ []) after
read_part text passed rest p after zero enough are more is shorter = absurd (omega (arith, enough, shorter))
read_part text passed rest p after (suc fuel) enough are more is shorter = record {
  fuel = fuel;
  enough = omega (arith, enough, shorter);
  are =
      let step : parts_in (suc fuel) rest ≡ option_map (λ (r : Parts). (p ∷ r.0, r.1)) (parts_in fuel after) =
      ap (λ b. cond b (Some ([], drop 1 rest)) (with_part (parts_in fuel) (first_part rest))) more ∙ ap (with_part (parts_in fuel)) is in
      one_before passed p (parts_in fuel after) ∙ ap (option_map (after_parts passed)) (sym step) ∙ are;
}

pub read_more : (text rest : List ℕ) (parts new : List (Bor (List ℕ))) (p after : Bor (List ℕ)) → IsRead text (map text_of parts) rest
    → is_end rest ≡ false → ◌≡◌ {A = Option (List ℕ × List ℕ)} (Some (p.now, after.now)) (first_part rest) → length after.now < length rest
    → new ≡ parts ++ p ∷ [] → IsRead text (map text_of new) after.now
read_more text rest parts new p after before more is shorter put =
    subst (λ l. IsRead text l after.now) (sym (ap (map text_of) put ∙ map-append text_of parts (p ∷ [])))
    (read_part text (map text_of parts) rest p.now after.now before.fuel before.enough before.are more (sym is) shorter)

ended : (fuel : ℕ) (rest : List ℕ) → is_end rest ≡ true → parts_in fuel rest ≡ Some ([], drop 1 rest)
ended zero rest end = ap (λ b. cond b (Some ([], drop 1 rest)) None) end
ended (suc fuel) rest end = ap (λ b. cond b (Some ([], drop 1 rest)) (with_part (parts_in fuel) (first_part rest))) end

pub read_all : (text rest after : List ℕ) (passed : List (List ℕ)) → IsRead text passed rest → is_end rest ≡ true → after ≡ drop 1 rest
    → Some (passed, after) ≡ parts_of text
read_all text rest after passed before end is =
    ap (λ (z : List ℕ). Some (passed, z)) is
    ∙ sym (ap (option_map (after_parts passed)) (ended before.fuel rest end) ∙ ap (λ (l : List (List ℕ)). Some (l, drop 1 rest)) (append-nil passed))
    ∙ before.are

pub end_within : (cs : List ℕ) → is_end cs ≡ true → 1 ≤ length cs
end_within [] end = absurd cc
end_within (c ∷ cs) end = omega arith

stuck : (fuel : ℕ) (rest : List ℕ) → is_end rest ≡ false → first_part rest ≡ None → parts_in fuel rest ≡ None
stuck zero rest more none = ap (λ b. cond b (Some ([], drop 1 rest)) None) more
stuck (suc fuel) rest more none = ap (λ b. cond b (Some ([], drop 1 rest)) (with_part (parts_in fuel) (first_part rest))) more ∙ ap (with_part (parts_in fuel)) none

pub read_other : (text rest : List ℕ) (passed : List (List ℕ)) (r : Option (Bor (List ℕ) × Bor (List ℕ))) → IsRead text passed rest → is_end rest ≡ false
    → part_view r ≡ first_part rest → r ≡ None → None ≡ parts_of text
read_other text rest passed r before more view none =
    sym (ap (option_map (after_parts passed)) (stuck before.fuel rest more (sym view ∙ ap part_view none))) ∙ before.are

-- parts without a hash at their end

module _ (parts : List (Bor (List ℕ))) where
  abbrev without : Option (List ℕ) → List (List ℕ)
  without o =
      option_map_or (λ (last : List ℕ). cond (is_hash last) (take (length (map text_of parts) - 1) (map text_of parts)) (map text_of parts)) o (map text_of parts)

  last_text : slice_get (map text_of parts) (length (map text_of parts) - 1) ≡ option_map text_of (slice_get parts (length parts - 1))
  last_text = ap (λ n. slice_get (map text_of parts) (n - 1)) (length-map parts text_of) ∙ slice_get-map text_of parts (length parts - 1)

  pub hash_gone : (last : Bor (List ℕ)) (kept : List (Bor (List ℕ))) → Some last ≡ slice_get parts (length parts - 1) → is_hash last.now ≡ true
      → kept ≡ take (length parts - 1) parts → map text_of kept ≡ without_last_hash (map text_of parts)
  hash_gone last kept there hash is =
      ap (map text_of) is ∙ sym (take-map text_of (length parts - 1) parts)
      ∙ ap (λ n. take (n - 1) (map text_of parts)) (sym (length-map parts text_of))
      ∙ sym (ap without (last_text ∙ ap (option_map text_of) (sym there))
      ∙ ap (λ b. cond b (take (length (map text_of parts) - 1) (map text_of parts)) (map text_of parts)) hash)

  pub no_hash : (last : Bor (List ℕ)) → Some last ≡ slice_get parts (length parts - 1) → is_hash last.now ≡ false → map text_of parts ≡ without_last_hash (map text_of parts)
  no_hash last there other =
      sym (ap without (last_text ∙ ap (option_map text_of) (sym there))
      ∙ ap (λ b. cond b (take (length (map text_of parts) - 1) (map text_of parts)) (map text_of parts)) other)

  pub no_part : None ≡ slice_get parts (length parts - 1) → map text_of parts ≡ without_last_hash (map text_of parts)
  no_part none = sym (ap without (last_text ∙ ap (option_map text_of) (sym none)))

  pub one_part : length parts < 2 → map text_of parts ≡ without_hash (map text_of parts)
  one_part few =
      sym (ap (λ b. cond b (map text_of parts) (without_last_hash (map text_of parts)))
      (ap (λ n. nat_lt n 2) (length-map parts text_of) ∙ lt-ltb (length parts) 2 few))

  pub more_parts : (shown : List (List ℕ)) → 2 ≤ length parts → shown ≡ without_last_hash (map text_of parts) → shown ≡ without_hash (map text_of parts)
  more_parts shown many is =
      is ∙ sym (ap (λ b. cond b (map text_of parts) (without_last_hash (map text_of parts)))
      (ap (λ n. nat_lt n 2) (length-map parts text_of) ∙ le-ltb (length parts) 2 many))

-- codes of characters, digit by digit

module _ (text : List ℕ) (i n c : ℕ) (r : Option Symbol) (within : i < length text) (at : c ≡ get_or text i c) (so_far : code_from n (drop i text) ≡ r) where
  here : code_from n (drop i text) ≡ code_from n (c ∷ drop (i + 1) text)
  here = at_drop_more (code_from n) text i c within ∙ ap (λ x. code_from n (x ∷ drop (i + 1) text)) (sym at)

  pub code_ends : (rest : List ℕ) → c ≡ 36 → rest ≡ drop (i + 1) text → Some (n, rest) ≡ r
  code_ends rest sign is =
      ap (λ (l : List ℕ). Some (n, l)) is
      ∙ sym (here ∙ ap (λ b. cond b (Some (n, drop (i + 1) text)) (option_map_or (λ (next : ℕ). code_from next (drop (i + 1) text)) (with_code_digit n c) None))
      (ap (λ z. nat_eq z 36) sign))
      ∙ so_far

  pub code_goes_on : (next : ℕ) → nat_eq c 36 ≡ false → Some next ≡ with_code_digit n c → code_from next (drop (i + 1) text) ≡ r
  code_goes_on next other is =
      ap (λ (o : Option ℕ). option_map_or (λ (m : ℕ). code_from m (drop (i + 1) text)) o None) is
      ∙ sym (here ∙ ap (λ b. cond b (Some (n, drop (i + 1) text)) (option_map_or (λ (m : ℕ). code_from m (drop (i + 1) text)) (with_code_digit n c) None)) other)
      ∙ so_far

-- pieces, one after another: those that were passed, and those of the rest
pub pieces_more : (text rest after old before new : List ℕ) (i : ℕ) → i < length text
    → before ++ pieces_in (length text - i) rest ≡ old ++ pieces_in (length text) text → IsPut before new (first_piece rest) after
    → new ++ pieces_in (length text - (i + 1)) after ≡ old ++ pieces_in (length text) text
pieces_more text rest after old before new i within so_far put =
    let left : ℕ = length text - (i + 1) in
    let next : length text - i ≡ suc left = omega (arith, within) in
    ap (λ (l : List ℕ). l ++ pieces_in left after) put.0
    ∙ append_assoc before (first_piece rest).0 (pieces_in left after)
    ∙ ap (λ (l : List ℕ). before ++ ((first_piece rest).0 ++ pieces_in left l)) put.1
    ∙ ap (λ (k : ℕ). before ++ pieces_in k rest) (sym next)
    ∙ so_far
