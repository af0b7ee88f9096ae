-- Patterns, looked up in sets.
use Rattle.std.proofs.Common.{◌≡◌, ◌∙◌, ℕ, Bool, true, false, ◌&&◌, ◌||◌, cond, List, [], ◌∷◌, ◌++◌, Option, Some, None, refl, sym, ap, option_map}
use Rattle.std.proofs.Math.Bool.{and-false, and-or_distrib_right, and_assoc, or-false, or_assoc}
use Rattle.std.proofs.lemmas.Cmp.{nat_list_eq_equiv}
use Rattle.std.proofs.lemmas.List.Folds.{list_any-append}
use Rattle.std.specs.Borrow.{Bor}
use Rattle.std.specs.List.{list_any}
use Rattle.std.specs.Option.{option_eq}
use Rattle.std.specs.Str.{bytes_eq}
use Rattle.wc_read.specs.Imports.{ImportValue}
use Rattle.wc_why.specs.Texts.{text_of}
use Rattle.wc_import_paths.specs.Patterns.{PatternView, is_known, is_match, is_name}
use Rattle.wc_import_paths.specs.Private.Asked.{AddsKeys, AddsNamed, KeyView, ModuleKey, are_same_texts, has_any, has_named, in_set, is_any, is_named, is_offered, is_same, is_same_key, is_same_pattern, key_of, key_view, module_key, module_keys}
use Rattle.wc_import_paths.specs.declared.asked.PatternKey.{PatternKey}
use Rattle.wc_import_paths.proofs.KeyLemmas.{asks_by_keys}
use Rattle.wc_import_paths.proofs.SearchLemmas.{any_either, any_same, none_any}

-- an import is asked for by a pattern that is for imports under one of its keys

under_by : (p : PatternView) (key : ModuleKey) (name : List ℕ) → is_named (key_of p) key name ≡ (is_same_key (module_key p.0) key && is_name p.1 name)
under_by (k, None) key name =
    let same = is_same_key (module_key k) key in
    ap (λ (b : Bool). b || (same && true)) (and-false same)
under_by (k, Some n) key name =
    let same = is_same_key (module_key k) key in
    ap (λ (b : Bool). (same && bytes_eq n name) || b) (and-false same) ∙ or-false (same && bytes_eq n name)

any_and : {X : Type 0} (f g : X → Bool) (b : Bool) (xs : List X) → ((x : X) → g x ≡ (f x && b)) → list_any g xs ≡ (list_any f xs && b)
any_and f g b [] e = refl
any_and f g b (x ∷ xs) e = rw (e x) (rw (any_and f g b xs e) (sym (and-or_distrib_right (f x) (list_any f xs) b)))

pub match_is : (p : PatternView) (i : ImportValue) → is_match p i ≡ is_offered (key_of p) i
match_is p i =
    ap (λ (b : Bool). b && is_name p.1 i.name) (asks_by_keys p.0 i.module_name)
    ∙ sym (any_and (is_same_key (module_key p.0)) (λ key. is_named (key_of p) key i.name) (is_name p.1 i.name) (module_keys i.module_name)
    (λ key. under_by p key i.name))

pub known_is : (imports : List ImportValue) (p : PatternView) → is_known imports p ≡ list_any (is_offered (key_of p)) imports
known_is imports p = any_same (is_match p) (is_offered (key_of p)) imports (match_is p)

-- among patterns: each that is for imports under one of the keys, or each key that one of the patterns is for

under_any : (patterns : List PatternView) (keys : List ModuleKey) (name : List ℕ) → list_any (λ p. is_any (key_of p) keys name) patterns ≡ has_any patterns keys name
under_any patterns [] name = none_any patterns
under_any patterns (key ∷ keys) name =
    any_either (λ p. is_named (key_of p) key name) (λ p. is_any (key_of p) keys name) patterns
    ∙ (ap (λ (b : Bool). list_any (λ p. is_named (key_of p) key name) patterns || b) (under_any patterns keys name)
    ∙ ap (λ (b : Bool). b || has_any patterns keys name) (any_either (λ p. is_same (key_of p) (key, Some name)) (λ p. is_same (key_of p) (key, None)) patterns))

pub any_match : (patterns : List PatternView) (i : ImportValue) → list_any (λ p. is_match p i) patterns ≡ has_any patterns (module_keys i.module_name) i.name
any_match patterns i =
    any_same (λ p. is_match p i) (λ p. is_offered (key_of p) i) patterns (λ p. match_is p i)
    ∙ under_any patterns (module_keys i.module_name) i.name

pub has_both : (patterns : List PatternView) (keys others : List ModuleKey) (name : List ℕ) → has_any patterns (keys ++ others) name
    ≡ (has_any patterns keys name || has_any patterns others name)
has_both patterns keys others name = list_any-append (λ key. has_named patterns key name) keys others

-- which of two texts is first does not count
names_turned : (x y : Option (List ℕ)) → option_eq bytes_eq x y ≡ option_eq bytes_eq y x
names_turned None None = refl
names_turned None (Some y) = refl
names_turned (Some x) None = refl
names_turned (Some x) (Some y) = nat_list_eq_equiv.symm x y

pub turned : (p q : KeyView) → is_same p q ≡ is_same q p
turned p q = rw (nat_list_eq_equiv.symm p.0.0 q.0.0) (rw (names_turned p.0.1 q.0.1) (rw (names_turned p.1 q.1) refl))

-- one more pattern in a set

same_names : (x y : Option (Bor (List ℕ))) → are_same_texts x y ≡ option_eq bytes_eq (option_map text_of x) (option_map text_of y)
same_names None None = refl
same_names None (Some y) = refl
same_names (Some x) None = refl
same_names (Some x) (Some y) = refl

same_seen : (p q : PatternKey) → is_same_pattern p q ≡ is_same (key_view p) (key_view q)
same_seen p q =
    rw (same_names p.version q.version) (rw (same_names p.name q.name)
    (sym (and_assoc (bytes_eq p.text.now q.text.now) (option_eq bytes_eq (option_map text_of p.version) (option_map text_of q.version))
    (option_eq bytes_eq (option_map text_of p.name) (option_map text_of q.name)))))

with_one : (is was : Bool) → cond is true was ≡ (was || is)
with_one true true = refl
with_one true false = refl
with_one false true = refl
with_one false false = refl

pub one_added : (before after : List PatternKey) (k q : PatternKey) → in_set after q ≡ cond (is_same_pattern k q) true (in_set before q)
    → in_set after q ≡ (in_set before q || is_same (key_view k) (key_view q))
one_added before after k q is = is ∙ (with_one (is_same_pattern k q) (in_set before q) ∙ ap (λ b. in_set before q || b) (same_seen k q))

pub named_added : (before next after : List PatternKey) (key : ModuleKey) (name : List ℕ) (k j : PatternKey) → key_view k ≡ (key, Some name) → key_view j ≡ (key, None)
    → ((q : PatternKey) → in_set next q ≡ cond (is_same_pattern k q) true (in_set before q))
    → ((q : PatternKey) → in_set after q ≡ cond (is_same_pattern j q) true (in_set next q)) → AddsNamed before after key name
named_added before next after key name k j this that first second q =
    let p = key_view q in
    let of_this : is_same (key_view k) p ≡ is_same p (key, Some name) = ap (λ (v : KeyView). is_same v p) this ∙ turned (key, Some name) p in
    let of_any : is_same (key_view j) p ≡ is_same p (key, None) = ap (λ (v : KeyView). is_same v p) that ∙ turned (key, None) p in
    one_added next after j q (second q)
    ∙ (ap (λ (b : Bool). b || is_same (key_view j) p) (one_added before next k q (first q))
    ∙ (or_assoc (in_set before q) (is_same (key_view k) p) (is_same (key_view j) p)
    ∙ ap (λ (b : Bool). in_set before q || b)
    (ap (λ (b : Bool). b || is_same (key_view j) p) of_this ∙ ap (λ (b : Bool). is_same p (key, Some name) || b) of_any)))

-- those under keys, one after another

pub none_added : (keys : List PatternKey) (name : List ℕ) → AddsKeys keys keys [] name
none_added keys name q = sym (or-false (in_set keys q))

pub one_key : (before after : List PatternKey) (key : ModuleKey) (name : List ℕ) → AddsNamed before after key name → AddsKeys before after (key ∷ []) name
one_key before after key name added q = added q ∙ ap (λ (b : Bool). in_set before q || b) (sym (or-false (is_named (key_view q) key name)))

pub both_added : (before next after : List PatternKey) (keys others : List ModuleKey) (name : List ℕ) → AddsKeys before next keys name
    → AddsKeys next after others name → AddsKeys before after (keys ++ others) name
both_added before next after keys others name first second q =
    second q
    ∙ (ap (λ (b : Bool). b || is_any (key_view q) others name) (first q)
    ∙ (or_assoc (in_set before q) (is_any (key_view q) keys name) (is_any (key_view q) others name)
    ∙ ap (λ (b : Bool). in_set before q || b) (sym (list_any-append (λ key. is_named (key_view q) key name) keys others))))

-- one of two is so
pub or_first : (a b r : Bool) → r ≡ a → r ≡ true → r ≡ (a || b)
or_first a b r is so = let there : (a || b) ≡ true = rw (sym is ∙ so) refl in so ∙ sym there

pub or_second : (a b r s : Bool) → r ≡ a → r ≡ false → s ≡ b → s ≡ (a || b)
or_second a b r s is not_so then = let left : (a || b) ≡ b = rw (sym is ∙ not_so) refl in then ∙ sym left
