-- The texts of slices, one after another.
use Rattle.std.proofs.Common.{◌≡◌, ◌≢◌, ℕ, ◌+◌, ◌<◌, ◌≤◌, List, [], ◌∷◌, ◌++◌, length, take, get_or, zero, suc, Bor, Result, Ok, Err}
use Rattle.std.proofs.Common.{refl, sym, ◌∙◌, ap, subst, String, Global, arith}
use Rattle.std.proofs.lemmas.List.{take_more, take_all, map-append}
use Rattle.std.proofs.lemmas.List.Elements.{All-append, All-from_recursion}
use Rattle.std.specs.Prelude.{string_bytes}
use Rattle.std.specs.List.{All}
use Rattle.std.specs.Result.{MatchResult, IsOk}
use Rattle.std.specs.Str.{IsUtf8}
use Rattle.indexmap.specs.IndexSet.{insert_key}
use Rattle.wc_gc.specs.LiveItems.{names_of}
use Rattle.wc_texts.specs.Names.{first_occurrences}
use Rattle.wc_gc.proofs.NameSetLemmas.{same_text, set_more as name_more, some_keys}
use Rattle.wc_calls.specs.ExportNames.{texts}

texts_more : (xs : List (Bor (List ℕ))) (i : ℕ) (d : Bor (List ℕ)) → i < length xs → texts (take (i + 1) xs) ≡ texts (take i xs) ++ (get_or xs i d).now ∷ []
texts_more xs i d within = ap texts (take_more xs i d within) ∙ map-append (λ (s : Bor (List ℕ)). s.now) (take i xs) (get_or xs i d ∷ [])

-- what is so of the texts that were passed is so of one more
pub all_more : (P : List ℕ → Type 0) (xs : List (Bor (List ℕ))) (i : ℕ) (d : Bor (List ℕ)) → i < length xs → All P (texts (take i xs))
    → P (get_or xs i d).now → All P (texts (take (i + 1) xs))
all_more P xs i d within all one =
    subst (All P) (sym (texts_more xs i d within)) (All-append P (texts (take i xs)) ((get_or xs i d).now ∷ []) all
    (All-from_recursion P ((get_or xs i d).now ∷ []) (one, tt)))

-- what is so of all texts is so of each
pub text_at : (P : List ℕ → Type 0) (xs : List (Bor (List ℕ))) (i : ℕ) (d : Bor (List ℕ)) → i < length xs → All P (texts xs) → P (get_or xs i d).now
text_at P [] i d within all = absurd (omega arith)
text_at P (x ∷ xs) zero d within all = all zero x.now (omega arith)
text_at P (x ∷ xs) (suc i) d within all = text_at P xs i d (omega arith) (λ k e inside. all (suc k) e (omega arith))

-- all texts were passed
pub all_passed : (P : List ℕ → Type 0) (xs : List (Bor (List ℕ))) (i : ℕ) → length xs ≤ i → All P (texts (take i xs)) → All P (texts xs)
all_passed P xs i end all = subst (λ ys. All P (texts ys)) (take_all i xs end) all

-- bytes that are text are read as such
pub read_text : {A E : Type 0} (read : Result A E) (bytes : List ℕ) (P : A → Type 0) (Q : E → Type 0)
    → MatchResult read P (λ e. (¬ (IsUtf8 bytes)) × Q e) → IsUtf8 bytes → IsOk read
read_text (Ok s) bytes P Q read is = refl
read_text (Err e) bytes P Q read is = absurd (read.0 is)

-- the text that bytes were read as
pub text_read : {A E : Type 0} (read : Result A E) (s : A) (P : A → Type 0) (Q : E → Type 0) → MatchResult read P Q → read ≡ Ok s → P s
text_read (Ok t) s P Q is e = let same : t ≡ s = cc in subst P same is
text_read (Err f) s P Q is e = absurd cc

-- the set of the texts that were passed, after one more is put into it
pub set_more : (keys : List (String Global)) (xs : List (Bor (List ℕ))) (i : ℕ) (d : Bor (List ℕ)) (name : String Global) → i < length xs
    → names_of keys ≡ first_occurrences (texts (take i xs)) → string_bytes name ≡ (get_or xs i d).now
    → names_of (insert_key same_text keys name) ≡ first_occurrences (texts (take (i + 1) xs))
set_more keys xs i d name within known is =
    name_more keys (texts (take i xs)) name (get_or xs i d).now known is ∙ ap first_occurrences (sym (texts_more xs i d within))

-- the list of the texts that were passed, after one more is put to it
pub list_more : (list xs : List (Bor (List ℕ))) (i : ℕ) (d text : Bor (List ℕ)) → i < length xs → texts list ≡ texts (take i xs) → text.now ≡ (get_or xs i d).now
    → texts (list ++ text ∷ []) ≡ texts (take (i + 1) xs)
list_more list xs i d text within known is =
    map-append (λ (s : Bor (List ℕ)). s.now) list (text ∷ []) ∙ (ap (λ ts. ts ++ text.now ∷ []) known
    ∙ (ap (λ t. texts (take i xs) ++ t ∷ []) is ∙ sym (texts_more xs i d within)))

-- a set of names is not empty, where there is a name
pub some_texts : (keys : List (String Global)) (xs : List (Bor (List ℕ))) → names_of keys ≡ first_occurrences (texts xs) → xs ≢ [] → keys ≢ []
some_texts keys [] same some = λ e. some refl
some_texts keys (x ∷ xs) same some = some_keys keys (texts (x ∷ xs)) same (λ e. absurd cc)
