-- The exports that are recorded of an adapter, and the functions that the main module wants of it.
use Rattle.std.proofs.Common.{◌≡◌, ◌&&◌, ◌||◌, ℕ, Bool, true, false, cond, not, List, [], ◌∷◌, ◌++◌, map, Option, Some, is_some, String, string_bytes, Global, true≢false, refl, sym, ◌∙◌, ap, append-nil, append_assoc}
use Rattle.std.specs.Borrow.{Bor}
use Rattle.std.specs.List.{list_any}
use Rattle.std.specs.Map.{keys_of, lookup}
use Rattle.std.specs.Str.{bytes_eq}
use Rattle.std.proofs.Math.Bool.{or-false}
use Rattle.std.proofs.lemmas.Cmp.{nat_list_eq_equiv}
use Rattle.std.proofs.lemmas.List.Folds.{list_any-append}
use Rattle.std.proofs.lemmas.Map.Made.{is_some-lookup}
use Rattle.std.proofs.lemmas.Slice.Eq.{bytes_eq-Decides}
use Rattle.indexmap.specs.IndexMap.{insert_entry}
use Rattle.indexmap.specs.IndexSet.{insert_key}
use Rattle.indexmap.proofs.SetLemmas.{keys_insert_entry}
use Rattle.wc_maps.specs.Texts.{HasTexts, is_in, text_of}
use Rattle.wc_maps.proofs.SetLemmas.{set_more}
use Rattle.wc_names.specs.ExportViews.{ExportView}
use Rattle.wc_gc.proofs.NameSetLemmas.{same_text, text_more}
use Rattle.wc_texts.specs.Names.{named_view}
use Rattle.wc_validate.specs.Exports.Map.{ExportRecord}
use Rattle.wc_ways.specs.Words.{WantedFunctions, is_wanted}
use Rattle.wc_ways.specs.Private.SummaryAdapters.{AreWanted, NotesWanted, has_named}
use Rattle.wc_read.specs.Types.{FuncTypeValue}

-- ---- the names of exports, as a set

pub record NamesLeft (all left : ExportRecord) (keys : List (Bor (List ℕ))) : Type 0 where
  pub passed : List (List ℕ)
  pub split : passed ++ keys_of left ≡ keys_of all
  pub has : HasTexts passed (map text_of keys)

pub names_none : (all left : ExportRecord) (keys : List (Bor (List ℕ))) → left ≡ all → keys ≡ [] → NamesLeft all left keys
names_none all left keys is none = record { passed = []; split = ap keys_of is; has = λ t. ap (λ l. is_in (map text_of l) t) none }

pub names_next : (all left rest : ExportRecord) (x : List ℕ × ExportView) (k : Bor (List ℕ)) (keys after : List (Bor (List ℕ))) → left ≡ x ∷ rest → k.now ≡ x.0
    → after ≡ cond (list_any (λ y. bytes_eq k.now y.now) keys) keys (keys ++ k ∷ []) → NamesLeft all left keys → NamesLeft all rest after
names_next all left rest x k keys after is name put n = record {
  passed = n.passed ++ k.now ∷ [];
  split = append_assoc n.passed (k.now ∷ []) (keys_of rest) ∙ (ap (λ (z : List ℕ). n.passed ++ z ∷ keys_of rest) name ∙ (ap (λ (z : ExportRecord). n.passed ++ keys_of z) (sym is) ∙ n.split));
  has = set_more n.passed (n.passed ++ k.now ∷ []) keys after k refl put n.has;
}

turned : (texts : List (List ℕ)) (e : List ℕ) → is_in texts e ≡ list_any (bytes_eq e) texts
turned [] e = refl
turned (t ∷ texts) e = λ i. nat_list_eq_equiv.symm t e i || turned texts e i

pub names_all : (all left : ExportRecord) (keys : List (Bor (List ℕ))) → left ≡ [] → NamesLeft all left keys → (e : List ℕ)
    → is_in (map text_of keys) e ≡ is_some (lookup (bytes_eq e) all)
names_all all left keys none n e =
    let is : n.passed ≡ keys_of all = sym (append-nil n.passed) ∙ (ap (λ (z : ExportRecord). n.passed ++ keys_of z) (sym none) ∙ n.split) in
    n.has e ∙ (ap (λ (z : List (List ℕ)). is_in z e) is ∙ (turned (keys_of all) e ∙ sym (is_some-lookup (bytes_eq e) all)))

-- ---- one function

named_keys : {X : Type 0} (es : List (String Global × X)) → keys_of (map named_view es) ≡ map string_bytes (keys_of es)
named_keys [] = refl
named_keys (e ∷ es) = ap (λ (l : List (List ℕ)). string_bytes e.0 ∷ l) (named_keys es)

has_key : {X : Type 0} (es : List (String Global × X)) (e : List ℕ) → has_named es e ≡ list_any (bytes_eq e) (map string_bytes (keys_of es))
has_key es e = is_some-lookup (bytes_eq e) (map named_view es) ∙ ap (list_any (bytes_eq e)) (named_keys es)

or_held : (a b : Bool) → (b ≡ true → a ≡ true) → a ≡ (a || b)
or_held true b h = refl
or_held false true h = h refl
or_held false false h = refl

put_step : (c : Bool) (names : List (List ℕ)) (n e : List ℕ) → list_any (bytes_eq n) names ≡ c
    → list_any (bytes_eq e) (cond c names (names ++ n ∷ [])) ≡ (list_any (bytes_eq e) names || bytes_eq e n)
put_step true names n e there =
    or_held (list_any (bytes_eq e) names) (bytes_eq e n) (λ same. ap (λ (z : List ℕ). list_any (bytes_eq z) names) ((bytes_eq-Decides e n).0 same) ∙ there)
put_step false names n e there = list_any-append (bytes_eq e) names (n ∷ []) ∙ ap (λ b. list_any (bytes_eq e) names || b) (or-false (bytes_eq e n))

wanted_if : (a b : Bool) → (b ≡ true → a ≡ false) → b ≡ (not a && b)
wanted_if true true h = absurd (true≢false (h refl))
wanted_if true false h = refl
wanted_if false b h = refl

not_wanted : (a b : Bool) → (b ≡ true → a ≡ true) → false ≡ (not a && b)
not_wanted true b h = refl
not_wanted false true h = absurd (true≢false (sym (h refl)))
not_wanted false false h = refl

module _ {X : Type 0} (always : List (List ℕ)) (name : List ℕ) (old : List (String Global × X)) where
  -- one that is always needed
  pub wanted_kept : is_in always name ≡ true → NotesWanted always name old old
  wanted_kept there e =
      sym (or-false (has_named old e))
      ∙ ap (λ b. has_named old e || b)
      (not_wanted (is_in always e) (bytes_eq e name) (λ same. ap (is_in always) ((bytes_eq-Decides e name).0 same) ∙ there))

  -- and one that isn't
  pub wanted_put : (own : String Global) (value : X) (new : List (String Global × X)) → string_bytes own ≡ name → new ≡ insert_entry same_text old own value
      → is_in always name ≡ false → NotesWanted always name old new
  wanted_put own value new is put absent e =
      let keys : map string_bytes (keys_of new) ≡ insert_key bytes_eq (map string_bytes (keys_of old)) name =
      ap (λ (z : List (String Global × X)). map string_bytes (keys_of z)) put
      ∙ (ap (map string_bytes) (keys_insert_entry same_text old own value)
      ∙ (text_more (keys_of old) own ∙ ap (insert_key bytes_eq (map string_bytes (keys_of old))) is)) in
      has_key new e ∙ (ap (list_any (bytes_eq e)) keys
      ∙ (put_step (list_any (bytes_eq name) (map string_bytes (keys_of old))) (map string_bytes (keys_of old)) name e refl
      ∙ (ap (λ b. b || bytes_eq e name) (sym (has_key old e))
      ∙ ap (λ b. has_named old e || b) (wanted_if (is_in always e) (bytes_eq e name) (λ same. ap (is_in always) ((bytes_eq-Decides e name).0 same) ∙ absent)))))

-- ---- all functions

abbrev Wanted : Type 0
Wanted = List ℕ × FuncTypeValue

head_wanted : (b : Bool) (t : FuncTypeValue) (o : Option FuncTypeValue) → is_some (cond b (Some t) o) ≡ (b || is_some o)
head_wanted true t o = refl
head_wanted false t o = refl

spread : (h n b r : Bool) → ((h || (n && b)) || (n && r)) ≡ (h || (n && (b || r)))
spread true n b r = refl
spread false true b r = refl
spread false false b r = refl

abbrev pub WantedLeft : {X : Type 0} → List (List ℕ) → WantedFunctions → WantedFunctions → List (String Global × X) → Type 0
WantedLeft always all left now = (e : List ℕ) → (has_named now e || (not (is_in always e) && is_wanted left e)) ≡ (not (is_in always e) && is_wanted all e)

module _ {X : Type 0} (always : List (List ℕ)) (all left : WantedFunctions) where
  pub wanted_none : (now : List (String Global × X)) → left ≡ all → now ≡ [] → WantedLeft always all left now
  wanted_none now is none e = λ i. has_named (none i) e || (not (is_in always e) && is_wanted (is i) e)

  pub wanted_next : (rest : WantedFunctions) (x : Wanted) (old new : List (String Global × X)) → left ≡ x ∷ rest → NotesWanted always x.0 old new → WantedLeft always all left old
      → WantedLeft always all rest new
  wanted_next rest x old new is put h e =
      let n : Bool = not (is_in always e) in
      ap (λ b. b || (n && is_wanted rest e)) (put e)
      ∙ (spread (has_named old e) n (bytes_eq e x.0) (is_wanted rest e)
      ∙ (ap (λ b. has_named old e || (n && b)) (sym (head_wanted (bytes_eq e x.0) x.1 (lookup (bytes_eq e) rest)))
      ∙ (ap (λ (z : WantedFunctions). has_named old e || (n && is_wanted z e)) (sym is) ∙ h e)))

  pub wanted_all : (now : List (String Global × X)) → left ≡ [] → WantedLeft always all left now → AreWanted always all now
  wanted_all now none h e =
      sym (or-false (has_named now e)) ∙ (ap (λ b. has_named now e || b) (nothing (not (is_in always e)))
      ∙ (ap (λ (z : WantedFunctions). has_named now e || (not (is_in always e) && is_wanted z e)) (sym none) ∙ h e))
    where
      nothing : (n : Bool) → false ≡ (n && false)
      nothing true = refl
      nothing false = refl
