-- Names of wanted indices alone, among those of all.
use Rattle.std.proofs.Common.{◌≡◌, ℕ, ◌+◌, ◌<◌, ◌≤◌, List, [], ◌∷◌, ◌++◌, length, take, map, get_or, Bool, true, false, Some, ◌||◌, nat_eq, refl, sym, ◌∙◌, ap}
use Rattle.std.specs.Prelude.{⊤, filter, if◌then◌else◌, Option, None, is_some, Result, IfOk}
use Rattle.std.specs.Option.{option_copied}
use Rattle.std.proofs.lemmas.Map.Made.{is_some-lookup}
use Rattle.std.proofs.lemmas.Result.{IfOk-weaker}
use Rattle.std.specs.List.{list_any}
use Rattle.std.specs.Map.{lookup, keys_of}
use Rattle.std.proofs.lemmas.Bool.{eqb-true}
use Rattle.std.proofs.lemmas.List.{take_more, take_all, map-append, nil_from_length}
use Rattle.std.proofs.lemmas.List.Folds.{list_any_more}
use Rattle.indexmap.specs.IndexMap.{insert_entry}
use Rattle.indexmap.proofs.MapLemmas.{insert_all_push}
use Rattle.indexmap.specs.Layout.{Rows}
use Rattle.wc_read.specs.Names.{GlobalNameValue, global_names_of, is_wanted, name_entries}
use Rattle.wc_read.specs.Reading.Names.{global_name_value, AreNamesAt, AreFunctionNamesAt}
use Rattle.wc_read.specs.Sections.{SectionValue, SpellsFrames}
use Rattle.wc_read.specs.declared.fault.ReadFault.{ReadFault}
use Rattle.wc_read.specs.declared.names.GlobalName.{GlobalName}
use Rattle.wc_read.proofs.NamesReadLemmas.{entry, entry_into}
use denote.Ref.{Bor}

-- indices

or_same : (a b : Bool) → (a || b) ≡ ((a || b) || a)
or_same true b = refl
or_same false true = refl
or_same false false = refl

or_more : (a b c : Bool) → (a || (b || c)) ≡ ((a || b) || c)
or_more true b c = refl
or_more false b c = refl

-- a key that is put in is found, and so is each that was
found_after : {V : Type 0} (es : List (ℕ × V)) (k : ℕ) (v : V) (i : ℕ) → list_any (nat_eq i) (keys_of (insert_entry nat_eq es k v)) ≡ (list_any (nat_eq i) (keys_of es) || nat_eq i k)
found_after [] k v i = by (nat_eq i k)
  where
    by : (test : Bool) → (test || false) ≡ (false || test)
    by true = refl
    by false = refl
found_after {V} (e ∷ es) k v i = by (nat_eq k e.0) (eqb-true k e.0) (found_after es k v i)
  where
    by : (test : Bool) → (test ≡ true → k ≡ e.0) → list_any (nat_eq i) (keys_of (insert_entry nat_eq es k v)) ≡ (list_any (nat_eq i) (keys_of es) || nat_eq i k) → list_any (nat_eq i) (keys_of (if test then (e.0, v) ∷ es else e ∷ insert_entry nat_eq es k v)) ≡ ((nat_eq i e.0 || list_any (nat_eq i) (keys_of es)) || nat_eq i k)
    by true same more = rw (same refl) (or_same (nat_eq i e.0) (list_any (nat_eq i) (keys_of es)))
    by false same more = ap (λ (b : Bool). nat_eq i e.0 || b) more ∙ or_more (nat_eq i e.0) (list_any (nat_eq i) (keys_of es)) (nat_eq i k)

copied_alike : (r : Option (Bor ⊤)) → is_some r ≡ is_some (option_copied r)
copied_alike (Some v) = refl
copied_alike None = refl

-- a look-up finds the keys
pub found_among : (r : Option (Bor ⊤)) (es : List (ℕ × ⊤)) (i : ℕ) → option_copied r ≡ lookup (nat_eq i) es → is_some r ≡ list_any (nat_eq i) (keys_of es)
found_among r es i e = copied_alike r ∙ ap (λ (o : Option ⊤). is_some o) e ∙ is_some-lookup (nat_eq i) es

-- the keys are the indices up to a position
pub record AreIndices (indices : List ℕ) (position : ℕ) (entries : List (ℕ × ⊤)) : Type 0 where
  pub are : (i : ℕ) → list_any (nat_eq i) (keys_of entries) ≡ list_any (nat_eq i) (take position indices)

pub indices_start : (indices : List ℕ) (entries : List (ℕ × ⊤)) → length entries ≡ 0 → AreIndices indices 0 entries
indices_start indices entries e = record { are = λ i. rw (nil_from_length entries e) refl }

pub indices_more : (indices : List ℕ) (position : ℕ) (old new : List (ℕ × ⊤)) (v : ⊤) (d : ℕ) → AreIndices indices position old → position < length indices → new ≡ insert_entry nat_eq old (get_or indices position d) v → AreIndices indices (position + 1) new
indices_more indices position old new v d a less e =
    record {
      are = λ i.
          ap (λ (es : List (ℕ × ⊤)). list_any (nat_eq i) (keys_of es)) e ∙ found_after old (get_or indices position d) v i
          ∙ ap (λ (b : Bool). b || nat_eq i (get_or indices position d)) (a.are i)
          ∙ sym (list_any_more (nat_eq i) indices position d less);
    }

pub indices_end : (indices : List ℕ) (position : ℕ) (entries : List (ℕ × ⊤)) → AreIndices indices position entries → length indices ≤ position → (i : ℕ) → list_any (nat_eq i) (keys_of entries) ≡ list_any (nat_eq i) indices
indices_end indices position entries a all i = rw (take_all position indices all) at (a.are i)

-- names

-- a pair that is put in is among the wanted ones where its index is wanted
wanted_after : (wanted : List ℕ) (es : List GlobalNameValue) (k : ℕ) (v : List ℕ) → filter (is_wanted wanted) (insert_entry nat_eq es k v) ≡ (if list_any (nat_eq k) wanted then insert_entry nat_eq (filter (is_wanted wanted) es) k v else filter (is_wanted wanted) es)
wanted_after wanted [] k v = refl
wanted_after wanted (e ∷ es) k v = by (nat_eq k e.0) refl (list_any (nat_eq k) wanted) refl (list_any (nat_eq e.0) wanted) refl (wanted_after wanted es k v)
  where
    kept : List GlobalNameValue
    kept = filter (is_wanted wanted) es

    put : List GlobalNameValue
    put = insert_entry nat_eq es k v

    by : (test : Bool) → nat_eq k e.0 ≡ test → (w : Bool) → list_any (nat_eq k) wanted ≡ w → (x : Bool) → list_any (nat_eq e.0) wanted ≡ x → filter (is_wanted wanted) put ≡ (if w then insert_entry nat_eq kept k v else kept) → filter (is_wanted wanted) (if test then (e.0, v) ∷ es else e ∷ put) ≡ (if w then insert_entry nat_eq (if x then e ∷ kept else kept) k v else (if x then e ∷ kept else kept))
    by true same w here x there more = here_too w x same here there
      where
        here_too : (w x : Bool) → nat_eq k e.0 ≡ true → list_any (nat_eq k) wanted ≡ w → list_any (nat_eq e.0) wanted ≡ x → (if list_any (nat_eq e.0) wanted then (e.0, v) ∷ kept else kept) ≡ (if w then insert_entry nat_eq (if x then e ∷ kept else kept) k v else (if x then e ∷ kept else kept))
        here_too true true same here there = rw (there, same) refl
        here_too false false same here there = rw there refl
        here_too true false same here there = absurd (cc (eqb-true k e.0 same, here, there))
        here_too false true same here there = absurd (cc (eqb-true k e.0 same, here, there))
    by false other w here x there more = there_too w x other there more
      where
        there_too : (w x : Bool) → nat_eq k e.0 ≡ false → list_any (nat_eq e.0) wanted ≡ x → filter (is_wanted wanted) put ≡ (if w then insert_entry nat_eq kept k v else kept) → (if list_any (nat_eq e.0) wanted then e ∷ filter (is_wanted wanted) put else filter (is_wanted wanted) put) ≡ (if w then insert_entry nat_eq (if x then e ∷ kept else kept) k v else (if x then e ∷ kept else kept))
        there_too true true other there more = rw (there, other, more) refl
        there_too true false other there more = rw (there, more) refl
        there_too false true other there more = rw (there, more) refl
        there_too false false other there more = rw (there, more) refl

-- the entries are those of the pairs up to an index, of which the wanted ones are kept
pub record AreEntriesAt (wanted : List ℕ) (pairs : List GlobalName) (index : ℕ) (entries : List (ℕ × Bor (List ℕ))) : Type 0 where
  pub are : map entry entries ≡ filter (is_wanted wanted) (global_names_of (map global_name_value (take index pairs)))

pub entries_start : (wanted : List ℕ) (pairs : List GlobalName) (entries : List (ℕ × Bor (List ℕ))) → length entries ≡ 0 → AreEntriesAt wanted pairs 0 entries
entries_start wanted pairs entries e = record { are = rw (nil_from_length entries e) refl }

-- one pair more
names_after : (wanted : List ℕ) (pairs : List GlobalName) (index : ℕ) (d : GlobalName) → index < length pairs → let p : GlobalName = get_or pairs index d in filter (is_wanted wanted) (global_names_of (map global_name_value (take (index + 1) pairs))) ≡ filter (is_wanted wanted) (insert_entry nat_eq (global_names_of (map global_name_value (take index pairs))) p.index p.name.now)
names_after wanted pairs index d less =
    let more : map global_name_value (take (index + 1) pairs) ≡ map global_name_value (take index pairs) ++ global_name_value (get_or pairs index d) ∷ [] =
    rw (take_more pairs index d less, map-append) refl in
    ap (λ (ps : List GlobalNameValue). filter (is_wanted wanted) (global_names_of ps)) more
    ∙ ap (λ (es : List GlobalNameValue). filter (is_wanted wanted) es) (insert_all_push nat_eq [] (map global_name_value (take index pairs)) (global_name_value (get_or pairs index d)))

pub entries_more : (wanted : List ℕ) (pairs : List GlobalName) (index : ℕ) (old new : List (ℕ × Bor (List ℕ))) (d : GlobalName) → AreEntriesAt wanted pairs index old → index < length pairs → list_any (nat_eq (get_or pairs index d).index) wanted ≡ true → new ≡ insert_entry nat_eq old (get_or pairs index d).index (get_or pairs index d).name → AreEntriesAt wanted pairs (index + 1) new
entries_more wanted pairs index old new d a less is e =
    let p : GlobalName = get_or pairs index d in
    let front : List GlobalNameValue = global_names_of (map global_name_value (take index pairs)) in
    record {
      are =
          ap (λ (es : List (ℕ × Bor (List ℕ))). map entry es) e ∙ entry_into old p.index p.name
          ∙ ap (λ (es : List GlobalNameValue). insert_entry nat_eq es p.index p.name.now) a.are
          ∙ sym (names_after wanted pairs index d less ∙ wanted_after wanted front p.index p.name.now ∙ rw is refl);
    }

pub entries_other : (wanted : List ℕ) (pairs : List GlobalName) (index : ℕ) (old : List (ℕ × Bor (List ℕ))) (d : GlobalName) → AreEntriesAt wanted pairs index old → index < length pairs → list_any (nat_eq (get_or pairs index d).index) wanted ≡ false → AreEntriesAt wanted pairs (index + 1) old
entries_other wanted pairs index old d a less is_not =
    let p : GlobalName = get_or pairs index d in
    let front : List GlobalNameValue = global_names_of (map global_name_value (take index pairs)) in
    record { are = a.are ∙ sym (names_after wanted pairs index d less ∙ wanted_after wanted front p.index p.name.now ∙ rw is_not refl) }

pub entries_end : (wanted : List ℕ) (pairs : List GlobalName) (index : ℕ) (entries : List (ℕ × Bor (List ℕ))) → AreEntriesAt wanted pairs index entries → length pairs ≤ index → map entry entries ≡ filter (is_wanted wanted) (global_names_of (map global_name_value pairs))
entries_end wanted pairs index entries a all = rw (take_all index pairs all) at a.are

-- tests that agree keep the same
pub same_wanted : (these others : List ℕ) → ((i : ℕ) → list_any (nat_eq i) these ≡ list_any (nat_eq i) others) → (es : List GlobalNameValue) → filter (is_wanted these) es ≡ filter (is_wanted others) es
same_wanted these others same [] = refl
same_wanted these others same (e ∷ es) = rw (same e.0, same_wanted these others same es) refl

-- the names that the sections of a module give are those of the module
pub names_of_module : (bytes wanted keys : List ℕ) (sections : List SectionValue) (r : Result (Rows ℕ (Bor (List ℕ))) ReadFault) → SpellsFrames bytes sections → ((i : ℕ) → list_any (nat_eq i) keys ≡ list_any (nat_eq i) wanted) → IfOk r (λ m. AreNamesAt keys sections (name_entries m)) → IfOk r (λ m. AreFunctionNamesAt bytes wanted (name_entries m))
names_of_module bytes wanted keys sections r s same found =
    IfOk-weaker r (λ m. AreNamesAt keys sections (name_entries m)) (λ m. AreFunctionNamesAt bytes wanted (name_entries m))
    (λ m n. (n.0, (sections, s, n.1), n.2 ∙ same_wanted keys wanted same n.0)) found

-- a wanted function has among them the name that it has among all
pub wanted_lookup : (wanted : List ℕ) (all : List GlobalNameValue) (i : ℕ) → list_any (nat_eq i) wanted ≡ true → lookup (nat_eq i) (filter (is_wanted wanted) all) ≡ lookup (nat_eq i) all
wanted_lookup wanted [] i is = refl
wanted_lookup wanted (e ∷ es) i is = by (nat_eq i e.0) refl (list_any (nat_eq e.0) wanted) refl (wanted_lookup wanted es i is)
  where
    by : (test : Bool) → nat_eq i e.0 ≡ test → (x : Bool) → list_any (nat_eq e.0) wanted ≡ x → lookup (nat_eq i) (filter (is_wanted wanted) es) ≡ lookup (nat_eq i) es → lookup (nat_eq i) (if list_any (nat_eq e.0) wanted then e ∷ filter (is_wanted wanted) es else filter (is_wanted wanted) es) ≡ (if nat_eq i e.0 then Some e.1 else lookup (nat_eq i) es)
    by true same true there more = rw (there, same) refl
    by true same false there more = absurd (cc (eqb-true i e.0 same, is, there))
    by false other true there more = rw (there, other, more) refl
    by false other false there more = rw (there, other, more) refl
