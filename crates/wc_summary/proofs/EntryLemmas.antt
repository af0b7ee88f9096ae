-- What is noted of each interface, when one is listed and when what is noted of one changes.
use Rattle.std.proofs.Common.{◌≡◌, ℕ, ◌-◌, zero, suc, Bool, true, false, not, cond, List, [], ◌∷◌, ◌++◌, map, length, Option, Some, None, is_some, nat_eq, slice_get, get_or, position, String, Global, refl, sym, ◌∙◌, ap, subst, inl, inr, true≢false, option_map}
use Rattle.std.proofs.Math.Bool.{or-true}
use Rattle.std.proofs.lemmas.Bool.{cases_Bool}
use Rattle.std.proofs.lemmas.List.{map_push}
use Rattle.std.proofs.lemmas.List.Quantifiers.{position-Some}
use Rattle.std.proofs.lemmas.Map.Keys.{IsDistinct-head, IsDistinct-tail}
use Rattle.std.proofs.lemmas.Option.{slice_get-get_or, slice_get-map}
use Rattle.std.proofs.lemmas.Slice.Eq.{bytes_eq-Decides}
use Rattle.std.specs.List.{AllByRecursion, IsDistinct, list_any}
use Rattle.std.specs.Map.{keys_of, lookup, values_of}
use Rattle.std.specs.Option.{option_eq, option_or}
use Rattle.std.specs.Prelude.{string_bytes, unwrap_or}
use Rattle.std.specs.Str.{bytes_eq}
use Rattle.indexmap.specs.IndexMap.{IndexMap, insert_entry, set_value_at}
use Rattle.indexmap.specs.IndexSet.{insert_key}
use Rattle.indexmap.proofs.CallerLemmas.{insert_entry-new}
use Rattle.wc_texts.specs.Names.{first_occurrences}
use Rattle.wc_gc.proofs.NameSetLemmas.{same_text, set_more}
use Rattle.wc_summary.specs.Entries.{IsChanged, IsPlace, entries_view, interfaces_of, no_parts, parts_of, with_types}
use Rattle.wc_summary.specs.Private.Entries.{named_by, with_part}
use Rattle.wc_summary.specs.Summary.{AdapterPartView, PartsView, main_view, part_view, parts_view, user_view}
use Rattle.wc_summary.specs.declared.summary.AdapterPart.{AdapterPart}
use Rattle.wc_summary.specs.declared.summary.Entry.{Entry}

abbrev Noted : Type 0
Noted = List (String Global × Entry)

names_seen : (es : Noted) → interfaces_of (entries_view es) ≡ map string_bytes (keys_of es)
names_seen [] = refl
names_seen (e ∷ es) = ap (λ l. string_bytes e.0 ∷ l) (names_seen es)

-- ---- what is noted of the interface at a place changes

abbrev read : Option PartsView → PartsView
read found = unwrap_or found no_parts

at_head : (f : PartsView → PartsView) (b c : Bool) (old new : PartsView) (rest : Option PartsView) → c ≡ b → new ≡ f old
    → read (cond b (Some new) rest) ≡ cond c (f (read (cond b (Some old) rest))) (read (cond b (Some old) rest))
at_head f true true old new rest same is = is
at_head f true false old new rest same is = absurd (true≢false (sym same))
at_head f false true old new rest same is = absurd (true≢false same)
at_head f false false old new rest same is = refl

at_rest : (f : PartsView → PartsView) (b c : Bool) (first : PartsView) (old new : Option PartsView) → (b ≡ true → c ≡ false) → read new ≡ cond c (f (read old)) (read old)
    → read (cond b (Some first) new) ≡ cond c (f (read (cond b (Some first) old))) (read (cond b (Some first) old))
at_rest f true true first old new apart h = absurd (true≢false (apart refl))
at_rest f true false first old new apart h = refl
at_rest f false c first old new apart h = h

-- a name that is none of others differs from the one at a place among these
other_at : (keys : List (String Global)) (i : ℕ) (x : String Global) (interface : List ℕ) → AllByRecursion (λ y. same_text x y ≡ false) keys
    → slice_get (map string_bytes keys) i ≡ Some interface → bytes_eq (string_bytes x) interface ≡ false
other_at [] i x interface apart at = absurd (let bad : None ≡ Some interface = at in cc)
other_at (y ∷ ys) zero x interface apart at = let is : string_bytes y ≡ interface = cc in ap (bytes_eq (string_bytes x)) (sym is) ∙ apart.0
other_at (y ∷ ys) (suc i) x interface apart at = other_at ys i x interface apart.1 at

changed_each : (f : PartsView → PartsView) (es : Noted) (i : ℕ) (old new : Entry) → IsDistinct same_text (keys_of es) → slice_get (values_of es) i ≡ Some old
    → parts_view new ≡ f (parts_view old) → (interface name : List ℕ) → slice_get (interfaces_of (entries_view es)) i ≡ Some interface
    → parts_of (entries_view (set_value_at es i new)) name ≡ cond (bytes_eq name interface) (f (parts_of (entries_view es) name)) (parts_of (entries_view es) name)
changed_each f [] i old new distinct at is interface name named = absurd (let bad : None ≡ Some old = at in cc)
changed_each f (e ∷ es) zero old new distinct at is interface name named =
    let same : string_bytes e.0 ≡ interface = cc in
    let value : e.1 ≡ old = cc in
    at_head f (bytes_eq name (string_bytes e.0)) (bytes_eq name interface) (parts_view e.1) (parts_view new) (lookup (bytes_eq name) (entries_view es))
    (ap (bytes_eq name) (sym same)) (is ∙ ap (λ (v : Entry). f (parts_view v)) (sym value))
changed_each f (e ∷ es) (suc i) old new distinct at is interface name named =
    let others : slice_get (map string_bytes (keys_of es)) i ≡ Some interface = ap (λ l. slice_get l i) (sym (names_seen es)) ∙ named in
    at_rest f (bytes_eq name (string_bytes e.0)) (bytes_eq name interface) (parts_view e.1) (lookup (bytes_eq name) (entries_view es))
    (lookup (bytes_eq name) (entries_view (set_value_at es i new)))
    (λ on. ap (λ q. bytes_eq q interface) ((bytes_eq-Decides name (string_bytes e.0)).0 on)
    ∙ other_at (keys_of es) i e.0 interface (IsDistinct-head same_text e.0 (keys_of es) distinct) others)
    (changed_each f es i old new (IsDistinct-tail same_text e.0 (keys_of es) distinct) at is interface name named)

changed_names : (es : Noted) (i : ℕ) (new : Entry) → interfaces_of (entries_view (set_value_at es i new)) ≡ interfaces_of (entries_view es)
changed_names [] i new = refl
changed_names (e ∷ es) zero new = refl
changed_names (e ∷ es) (suc i) new = ap (λ l. string_bytes e.0 ∷ l) (changed_names es i new)

pub changed_at : (f : PartsView → PartsView) (es : Noted) (i : ℕ) (old new : Entry) → IsDistinct same_text (keys_of es) → slice_get (values_of es) i ≡ Some old
    → parts_view new ≡ f (parts_view old) → IsChanged f i (entries_view es) (entries_view (set_value_at es i new))
changed_at f es i old new distinct at is = record { listed = changed_names es i new; each = changed_each f es i old new distinct at is }

-- there is no such place

no_place : (es : Noted) (i : ℕ) (interface : List ℕ) → slice_get (values_of es) i ≡ None → slice_get (interfaces_of (entries_view es)) i ≡ Some interface → ⊥
no_place [] i interface past at = let bad : None ≡ Some interface = at in cc
no_place (e ∷ es) zero interface past at = let bad : Some e.1 ≡ None = past in cc
no_place (e ∷ es) (suc i) interface past at = no_place es i interface past at

pub changed_past : (f : PartsView → PartsView) (es : Noted) (i : ℕ) → slice_get (values_of es) i ≡ None → IsChanged f i (entries_view es) (entries_view es)
changed_past f es i past = record { listed = refl; each = λ interface name at. absurd (no_place es i interface past at) }

-- ---- an interface is listed

any_at : (p : String Global → Bool) (keys : List (String Global)) (i : ℕ) (k : String Global) → slice_get keys i ≡ Some k → p k ≡ true → list_any p keys ≡ true
any_at p [] i k at is = absurd (let bad : None ≡ Some k = at in cc)
any_at p (y ∷ ys) zero k at is = let same : y ≡ k = cc in rw (ap p same ∙ is) refl
any_at p (y ∷ ys) (suc i) k at is = rw (any_at p ys i k at is) (or-true _)

found_names : (keys : List (String Global)) (i : ℕ) (k : String Global) (interface : List ℕ) (before : List (List ℕ)) → slice_get keys i ≡ Some k → string_bytes k ≡ interface
    → map string_bytes keys ≡ first_occurrences before → map string_bytes keys ≡ first_occurrences (before ++ interface ∷ [])
found_names keys i k interface before at is h =
    let there : list_any (same_text k) keys ≡ true = any_at (same_text k) keys i k at ((bytes_eq-Decides (string_bytes k) (string_bytes k)).1 refl) in
    let more : map string_bytes (insert_key same_text keys k) ≡ first_occurrences (before ++ interface ∷ []) = set_more keys before k interface h is in
    rw there at more

found_there : (es : Noted) (interface : List ℕ) (place : ℕ) (d : String Global) → position (λ (k : String Global). bytes_eq interface (string_bytes k)) (keys_of es) ≡ Some place
    → IsPlace interface place (entries_view es) (entries_view es)
found_there es interface place d at =
    let found = position-Some (λ (k : String Global). bytes_eq interface (string_bytes k)) (keys_of es) place d at in
    let k : String Global = get_or (keys_of es) place d in
    let there : slice_get (keys_of es) place ≡ Some k = slice_get-get_or (keys_of es) place d found.0 in
    let is : string_bytes k ≡ interface = sym ((bytes_eq-Decides interface (string_bytes k)).0 found.1) in
    record {
      listed = λ before h. names_seen es ∙ found_names (keys_of es) place k interface before there is (sym (names_seen es) ∙ h);
      at = ap (λ l. slice_get l place) (names_seen es) ∙ (slice_get-map string_bytes (keys_of es) place ∙ (ap (option_map string_bytes) there ∙ ap Some is));
      grown = λ i name h. h;
      same = λ name. refl;
    }

pub found_place : (es : Noted) (interface : List ℕ) (place : ℕ) → position (λ (k : String Global). bytes_eq interface (string_bytes k)) (keys_of es) ≡ Some place
    → IsPlace interface place (entries_view es) (entries_view es)
found_place [] interface place at = absurd (let bad : None ≡ Some place = at in cc)
found_place (e ∷ es) interface place at = found_there (e ∷ es) interface place e.0 at

none_among : (p : String Global → Bool) (es : Noted) → lookup p es ≡ None → list_any p (keys_of es) ≡ false
none_among p [] none = refl
none_among p (e ∷ es) none = elim (cases_Bool (p e.0)) [
  | inl on ↦ absurd (let bad : Some e.1 ≡ None = rw on at none in cc)
  | inr off ↦ rw off (none_among p es (rw off at none))
]

last_at : (es : Noted) (name : String Global) (e : Entry) → slice_get (interfaces_of (entries_view (es ++ (name, e) ∷ []))) (length es) ≡ Some (string_bytes name)
last_at [] name e = refl
last_at (x ∷ es) name e = last_at es name e

still_at : (es : Noted) (name : String Global) (e : Entry) (i : ℕ) (interface : List ℕ) → slice_get (interfaces_of (entries_view es)) i ≡ Some interface
    → slice_get (interfaces_of (entries_view (es ++ (name, e) ∷ []))) i ≡ Some interface
still_at [] name e i interface at = absurd (let bad : None ≡ Some interface = at in cc)
still_at (x ∷ es) name e zero interface at = at
still_at (x ∷ es) name e (suc i) interface at = still_at es name e i interface at

empty_last : (b : Bool) (p : PartsView) → p ≡ no_parts → read (cond b (Some p) None) ≡ no_parts
empty_last true p is = is
empty_last false p is = refl

pub still_read : (b : Bool) (p : PartsView) (new old : Option PartsView) → read new ≡ read old → read (cond b (Some p) new) ≡ read (cond b (Some p) old)
still_read true p new old same = refl
still_read false p new old same = same

still_noted : (es : Noted) (name : String Global) (e : Entry) (q : List ℕ) → parts_view e ≡ no_parts
    → parts_of (entries_view (es ++ (name, e) ∷ [])) q ≡ parts_of (entries_view es) q
still_noted [] name e q empty = empty_last (bytes_eq q (string_bytes name)) (parts_view e) empty
still_noted (x ∷ es) name e q empty =
    still_read (bytes_eq q (string_bytes x.0)) (parts_view x.1) (lookup (bytes_eq q) (entries_view (es ++ (name, e) ∷ []))) (lookup (bytes_eq q) (entries_view es))
    (still_noted es name e q empty)

keys_more : (es : Noted) (name : String Global) (e : Entry) → keys_of (es ++ (name, e) ∷ []) ≡ keys_of es ++ name ∷ []
keys_more [] name e = refl
keys_more (x ∷ es) name e = ap (λ l. x.0 ∷ l) (keys_more es name e)

new_names : (es : Noted) (name : String Global) (e : Entry) (interface : List ℕ) (before : List (List ℕ)) → lookup (same_text name) es ≡ None → string_bytes name ≡ interface
    → interfaces_of (entries_view es) ≡ first_occurrences before → interfaces_of (entries_view (es ++ (name, e) ∷ [])) ≡ first_occurrences (before ++ interface ∷ [])
new_names es name e interface before none is h =
    let off : list_any (same_text name) (keys_of es) ≡ false = none_among (same_text name) es none in
    let more : map string_bytes (insert_key same_text (keys_of es) name) ≡ first_occurrences (before ++ interface ∷ []) =
    set_more (keys_of es) before name interface (sym (names_seen es) ∙ h) is in
    let last : map string_bytes (keys_of es ++ name ∷ []) ≡ first_occurrences (before ++ interface ∷ []) = rw off at more in
    names_seen (es ++ (name, e) ∷ []) ∙ (ap (map string_bytes) (keys_more es name e) ∙ last)

pub new_place : {S : Type 0} (m : IndexMap (String Global) Entry S) (name : String Global) (e : Entry) (interface : List ℕ) (place : ℕ) (new : Noted)
    → is_some (lookup (λ (k : String Global). bytes_eq interface (string_bytes k)) m.entries) ≡ false → string_bytes name ≡ interface → parts_view e ≡ no_parts → place ≡ length m.entries
    → new ≡ insert_entry same_text m.entries name e → IsPlace interface place (entries_view m.entries) (entries_view new)
new_place m name e interface place new absent is empty count inserted =
    let found : Option Entry = lookup (λ (k : String Global). bytes_eq interface (string_bytes k)) m.entries in
    let none : lookup (same_text name) m.entries ≡ None = ap (λ (x : List ℕ). lookup (λ (k : String Global). bytes_eq x (string_bytes k)) m.entries) is ∙ no_some found absent in
    let pushed : new ≡ m.entries ++ (name, e) ∷ [] = inserted ∙ insert_entry-new same_text m name e none in
    subst (λ (z : Noted). IsPlace interface place (entries_view m.entries) (entries_view z)) (sym pushed)
    (record {
      listed = λ before h. new_names m.entries name e interface before none is h;
      at = ap (slice_get (interfaces_of (entries_view (m.entries ++ (name, e) ∷ [])))) count ∙ (last_at m.entries name e ∙ ap Some is);
      grown = still_at m.entries name e;
      same = λ q. still_noted m.entries name e q empty;
    })
  where
    no_some : (o : Option Entry) → is_some o ≡ false → o ≡ None
    no_some None h = refl
    no_some (Some x) h = absurd (true≢false h)

-- what the code writes where an interface's types are noted
pub types_new : (e : Entry) (types : Option (Option (String Global))) (user : Option (String Global)) → is_some e.types ≡ false → types ≡ Some user
    → parts_view (record { main = e.main; adapters = e.adapters; types = types }) ≡ with_types (Some (user_view user)) (parts_view e)
types_new e types user none is = ap (typed e) (ap (option_map user_view) is ∙ sym (first_types e.types user none))
  where
    typed : Entry → Option (Option (List ℕ)) → PartsView
    typed e types = record { main = main_view e.main; adapters = map part_view e.adapters.items; types = types }

    first_types : (old : Option (Option (String Global))) (user : Option (String Global)) → is_some old ≡ false → option_or (option_map user_view old) (Some (user_view user)) ≡ Some (user_view user)
    first_types None user none = refl
    first_types (Some x) user none = absurd (true≢false none)

pub types_kept : (e : Entry) (types : Option (Option (List ℕ))) → is_some e.types ≡ true → parts_view e ≡ with_types types (parts_view e)
types_kept e types some = ap (typed e) (kept e.types types some)
  where
    typed : Entry → Option (Option (List ℕ)) → PartsView
    typed e types = record { main = main_view e.main; adapters = map part_view e.adapters.items; types = types }

    kept : (old : Option (Option (String Global))) (types : Option (Option (List ℕ))) → is_some old ≡ true → option_map user_view old ≡ option_or (option_map user_view old) types
    kept None types some = absurd (true≢false (sym some))
    kept (Some x) types some = refl

-- and where a part, or a function, is noted
abbrev with_list : Entry → List AdapterPartView → PartsView
with_list e parts = record { main = main_view e.main; adapters = parts; types = option_map user_view e.types }

abbrev with_namers : Entry → List ℕ → PartsView
with_namers e by = record { main = record { imports = e.main.imports; by = by }; adapters = map part_view e.adapters.items; types = option_map user_view e.types }

pub part_pushed : (e : Entry) (part : AdapterPart) (new : List AdapterPart) → new ≡ e.adapters.items ++ part ∷ []
    → with_list e (map part_view new) ≡ with_part (part_view part) (parts_view e)
part_pushed e part new is = ap (with_list e) (ap (map part_view) is ∙ map_push part_view e.adapters.items part)

pub namer_pushed : (e : Entry) (index : ℕ) (new : List ℕ) → option_eq nat_eq (slice_get e.main.by.items (length e.main.by.items - 1)) (Some index) ≡ false
    → new ≡ e.main.by.items ++ index ∷ [] → with_namers e new ≡ named_by index (parts_view e)
namer_pushed e index new off is = rw off (ap (with_namers e) is)

pub namer_kept : (e : Entry) (index : ℕ) → option_eq nat_eq (slice_get e.main.by.items (length e.main.by.items - 1)) (Some index) ≡ true
    → parts_view e ≡ named_by index (parts_view e)
namer_kept e index on = rw on refl

pub not_last : (twice ne : Bool) → ne ≡ not twice → ne ≡ true → twice ≡ false
not_last true ne e t = absurd (true≢false (sym t ∙ e))
not_last false ne e t = refl

pub is_last : (twice ne : Bool) → ne ≡ not twice → ne ≡ false → twice ≡ true
is_last true ne e t = refl
is_last false ne e t = absurd (true≢false (sym e ∙ t))
