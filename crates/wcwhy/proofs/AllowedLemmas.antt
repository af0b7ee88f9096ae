-- What a list allows of imports, entry by entry and import by import.
use Rattle.std.proofs.Common.{◌≡◌, ◌↔◌, ◌∙◌, ℕ, ◌+◌, ◌-◌, ◌<◌, ◌≤◌, Bool, true, false, not, ◌||◌, cond, List, [], ◌∷◌, ◌++◌, length, map, filter, take, drop, get_or, All, Contains, refl, sym, ap, subst, arith, inl, inr, append_assoc, append-nil}
use Rattle.std.proofs.Math.Bool.{and-true}
use Rattle.std.proofs.lemmas.Bool.{cases_Bool, or_parts}
use Rattle.std.proofs.lemmas.List.{drop_all, map-append}
use Rattle.std.proofs.lemmas.List.Elements.{All-cons, All-contains, All-nil, filter_passes}
use Rattle.std.proofs.lemmas.List.Folds.{list_any_none}
use Rattle.std.proofs.lemmas.List.Sums.{prefix_len_is, suffix_len_is}
use Rattle.std.proofs.lemmas.Slice.Eq.{bytes_eq-Decides}
use Rattle.std.specs.Borrow.{Bor}
use Rattle.std.specs.Char.{is_ascii_whitespace}
use Rattle.std.specs.List.{list_any, suffix_len}
use Rattle.std.specs.Str.{IsTrimAsciiEnd, IsTrimAsciiStart, bytes_eq}
use Rattle.indexmap.specs.IndexSet.{insert_key}
use Rattle.wc_gc.proofs.NameSetLemmas.{distinct_more}
use Rattle.wc_graph.proofs.ListLemmas.{from_filter, in_filter}
use Rattle.wc_maps.proofs.FirstLemmas.{Words, next_left}
use Rattle.wc_maps.proofs.ListLemmas.{contains_cons, contains_head, contains_tail}
use Rattle.wc_maps.specs.Texts.{text_of}
use Rattle.wc_read.specs.Imports.{ImportValue}
use Rattle.wc_texts.specs.Names.{first_occurrences}
use Rattle.wc_why.specs.Keys.{asks_about}
use Rattle.wc_import_paths.specs.Patterns.{PatternView, are_asked, is_known, is_shown}
use Rattle.wc_import_paths.proofs.PickedLemmas.{taken_more}
use Rattle.wcwhy.specs.Allowed.{EntryView, IsUnallowed, allows, entries_from, entry_on, is_allowed, is_used, line_key, module_names, trimmed_end, trimmed_start, unallowed}
use Rattle.wcwhy.specs.Private.Allowed.{entry_pattern, is_matched, outside}

-- white space that was cut off

pub start_is : (text rest : List ℕ) → IsTrimAsciiStart text rest → rest ≡ trimmed_start text
start_is text rest h =
    let len = h.2 in
    h.1 ∙ ap (λ n. drop n text) (sym (prefix_len_is is_ascii_whitespace text h.0 0 (omega (arith, len)) h.3 h.4))

pub end_is : (text rest : List ℕ) → IsTrimAsciiEnd text rest → rest ≡ trimmed_end text
end_is text rest h =
    let small = h.3 in
    let cut = suffix_len_is is_ascii_whitespace text h.0 0 small h.4 h.5 in
    let left : h.0 ≡ length text - suffix_len is_ascii_whitespace text = omega (arith, small, cut) in
    h.1 ∙ ap (λ n. take n text) left

-- the entries of one line more, before those of the lines that are left
pub entry_more : (lines : Words) (k : ℕ) (d : Bor (List ℕ)) (now new every : List EntryView) → k < length lines
    → now ++ entries_from (k + 1) (map text_of (drop k lines)) ≡ every → new ≡ now ++ entry_on (k + 1) (line_key (get_or lines k d).now)
    → new ++ entries_from (k + 1 + 1) (map text_of (drop (k + 1) lines)) ≡ every
entry_more lines k d now new every lt e put =
    let rest = entries_from (k + 1 + 1) (map text_of (drop (k + 1) lines)) in
    let one = entry_on (k + 1) (line_key (get_or lines k d).now) in
    ap (λ z. z ++ rest) put ∙ (append_assoc now one rest
    ∙ (ap (λ z. now ++ entries_from (k + 1) z) (sym (next_left lines k d lt)) ∙ e))

pub entries_end : (lines : Words) (k n : ℕ) (now every : List EntryView) → length lines ≤ k
    → now ++ entries_from n (map text_of (drop k lines)) ≡ every → now ≡ every
entries_end lines k n now every past e =
    sym (append-nil now) ∙ (ap (λ z. now ++ entries_from n (map text_of z)) (sym (drop_all k lines past)) ∙ e)

-- an item was appended, if it fails a test
pub kept_viewed : {X Y : Type 0} (v : X → Y) (answer test : Bool) (old new : List X) (x : X) → answer ≡ test
    → new ≡ old ++ cond (not answer) (x ∷ []) [] → map v new ≡ map v old ++ cond (not test) (v x ∷ []) []
kept_viewed v answer test old new x is e =
    ap (map v) e ∙ (map-append v old (cond (not answer) (x ∷ []) []) ∙ (ap (λ z. map v old ++ z) (one (not answer))
    ∙ ap (λ b. map v old ++ cond (not b) (v x ∷ []) []) is))
  where
    one : (c : Bool) → map v (cond c (x ∷ []) []) ≡ cond c (v x ∷ []) []
    one true = refl
    one false = refl

-- where there are patterns, what is asked for is what one asks for; where there are none, none does
pub asked_is : (patterns : List PatternView) (i : ImportValue) → are_asked patterns ≡ true → is_shown patterns i ≡ is_matched patterns i
asked_is [] i some = absurd cc
asked_is (p ∷ patterns) i some = refl

pub unasked_is : (patterns : List PatternView) (i : ImportValue) → are_asked patterns ≡ false → is_matched patterns i ≡ false
unasked_is [] i none = refl
unasked_is (p ∷ patterns) i none = absurd cc

-- the pattern of an entry asks for what the entry allows
pub matched_is : (entries : List EntryView) (i : ImportValue) → is_matched (map entry_pattern entries) i ≡ is_allowed entries i.module_name
matched_is [] i = refl
matched_is (e ∷ entries) i = rw (and-true (asks_about e.key i.module_name)) (ap (λ b. allows i.module_name e || b) (matched_is entries i))

pub used_is : (imports : List ImportValue) (e : EntryView) → is_known imports (entry_pattern e) ≡ is_used (module_names imports) e
used_is [] e = refl
used_is (i ∷ imports) e = rw (and-true (asks_about e.key i.module_name)) (ap (λ b. allows i.module_name e || b) (used_is imports e))

-- what is kept of a list, seen by a view that tells which is kept
filter_seen : {X Y : Type 0} (f : X → Y) (p : X → Bool) (q : Y → Bool) (xs : List X) → ((x : X) → p x ≡ q (f x)) → map f (filter p xs) ≡ filter q (map f xs)
filter_seen f p q [] same = refl
filter_seen f p q (x ∷ xs) same = elim (cases_Bool (q (f x))) [
  | inl stays ↦ rw (same x, stays) (ap (λ z. f x ∷ z) (filter_seen f p q xs same))
  | inr goes ↦ rw (same x, goes) (filter_seen f p q xs same)
]

pub outside_is : (entries : List EntryView) (imports : List ImportValue)
    → outside (map entry_pattern entries) imports ≡ filter (λ m. not (is_allowed entries m)) (module_names imports)
outside_is entries imports =
    filter_seen (λ (i : ImportValue). i.module_name) (λ i. not (is_matched (map entry_pattern entries) i)) (λ m. not (is_allowed entries m)) imports
    (λ i. ap not (matched_is entries i))

-- one text more, in the set and in the list of texts

abbrev pub same_text : Bor (List ℕ) → Bor (List ℕ) → Bool
same_text a b = bytes_eq a.now b.now

any_text : (keys : Words) (k : Bor (List ℕ)) → list_any (same_text k) keys ≡ list_any (bytes_eq k.now) (map text_of keys)
any_text [] k = refl
any_text (x ∷ keys) k = ap (λ b. same_text k x || b) (any_text keys k)

key_put : (keys : Words) (k : Bor (List ℕ)) → map text_of (insert_key same_text keys k) ≡ insert_key bytes_eq (map text_of keys) k.now
key_put keys k = elim (cases_Bool (list_any (same_text k) keys)) [
  | inl there ↦ rw (sym (any_text keys k), there) refl
  | inr new ↦ rw (sym (any_text keys k), new) (map-append text_of keys (k ∷ []))
]

text_put : (keys found new : Words) (k : Bor (List ℕ)) (added : Bool) → map text_of found ≡ map text_of keys → added ≡ not (list_any (same_text k) keys)
    → new ≡ found ++ cond added (k ∷ []) [] → map text_of new ≡ insert_key bytes_eq (map text_of keys) k.now
text_put keys found new k added same is put = elim (cases_Bool (list_any (same_text k) keys)) [
  | inl there ↦
      let old : added ≡ false = is ∙ ap not there in
      let stays : new ≡ found = put ∙ (ap (λ b. found ++ cond b (k ∷ []) []) old ∙ append-nil found) in
      rw (sym (any_text keys k), there) (ap (map text_of) stays ∙ same)
  | inr absent ↦
      let fresh : added ≡ true = is ∙ ap not absent in
      let grows : new ≡ found ++ k ∷ [] = put ∙ ap (λ b. found ++ cond b (k ∷ []) []) fresh in
      rw (sym (any_text keys k), absent) (ap (map text_of) grows ∙ (map-append text_of found (k ∷ []) ∙ ap (λ z. z ++ k.now ∷ []) same))
]

pub record AreOnce (texts keys found : Words) : Type 0 where
  pub same : map text_of found ≡ map text_of keys
  pub once : map text_of found ≡ first_occurrences (map text_of texts)

pub once_more : (texts keys after found new : Words) (k : ℕ) (d : Bor (List ℕ)) (added : Bool) → k < length texts → AreOnce (take k texts) keys found
    → after ≡ insert_key same_text keys (get_or texts k d) → added ≡ not (list_any (same_text (get_or texts k d)) keys)
    → new ≡ found ++ cond added (get_or texts k d ∷ []) [] → AreOnce (take (k + 1) texts) after new
once_more texts keys after found new k d added lt h kept is put =
    let x = get_or texts k d in
    let names = map text_of (take k texts) in
    let grown = text_put keys found new x added h.same is put in
    record {
      same = grown ∙ (sym (key_put keys x) ∙ ap (map text_of) (sym kept));
      once = grown ∙ (ap (λ z. insert_key bytes_eq z x.now) (sym h.same ∙ h.once) ∙ (sym (distinct_more names x.now)
          ∙ sym (ap first_occurrences (taken_more text_of texts k d lt))));
    }

-- names without repeats are the names

once_step : (x m : List ℕ) (names : List (List ℕ)) → Contains (first_occurrences names) m ↔ Contains names m
    → Contains (first_occurrences (x ∷ names)) m ↔ Contains (x ∷ names) m
once_step x m names rest =
    let other = λ (y : List ℕ). not (bytes_eq x y) in
    let others = filter other (first_occurrences names) in (
      λ h. elim (contains_cons x others m h) [
        | inl same ↦ subst (Contains (x ∷ names)) same (contains_head names x)
        | inr later ↦ contains_tail x names m (rest.0 (from_filter other (first_occurrences names) m later))
      ],
      λ h. elim (cases_Bool (bytes_eq x m)) [
        | inl same ↦ subst (Contains (x ∷ others)) ((bytes_eq-Decides x m).0 same) (contains_head others x)
        | inr unequal ↦ elim (contains_cons x names m h) [
          | inl is ↦ absurd (let yes_it = (bytes_eq-Decides x m).1 is in cc)
          | inr later ↦ contains_tail x others m (in_filter other (first_occurrences names) m (rest.1 later) (ap not unequal))
        ]
      ],
    )

once_is : (names : List (List ℕ)) (m : List ℕ) → Contains (first_occurrences names) m ↔ Contains names m
once_is [] m = (λ h. h, λ h. h)
once_is (x ∷ names) m = once_step x m names (once_is names m)

-- no entry allows a module where each does not

none_allow : (entries : List EntryView) (m : List ℕ) → is_allowed entries m ≡ false → All (λ (e : EntryView). asks_about e.key m ≡ false) entries
none_allow [] m is = All-nil (λ (e : EntryView). asks_about e.key m ≡ false)
none_allow (e ∷ entries) m is =
    let parts = or_parts (allows m e) (is_allowed entries m) is in
    All-cons (λ (x : EntryView). asks_about x.key m ≡ false) e entries parts.0 (none_allow entries m parts.1)

not_true : (b : Bool) → not b ≡ true → b ≡ false
not_true true e = absurd cc
not_true false e = refl

-- the modules that no entry allows are exactly those
pub unallowed_is : (entries : List EntryView) (names found : List (List ℕ)) → found ≡ unallowed entries names
    → (m : List ℕ) → Contains found m ↔ IsUnallowed entries names m
unallowed_is entries names found is m =
    let p = λ (n : List ℕ). not (is_allowed entries n) in (
      λ h. let there = (once_is (filter p names) m).0 (subst (λ z. Contains z m) is h) in
          (from_filter p names m there, none_allow entries m (not_true (is_allowed entries m) (All-contains (λ n. p n ≡ true) (filter p names) m (filter_passes p names) there))),
      λ h. subst (λ z. Contains z m) (sym is)
          ((once_is (filter p names) m).1 (in_filter p names m h.0 (ap not (list_any_none (allows m) entries h.1)))),
    )
