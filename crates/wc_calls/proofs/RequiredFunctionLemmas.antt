-- Required functions are read as they are spelled, and their types are put under their names.
use Rattle.std.proofs.Common.{◌≡◌, ◌≢◌, ℕ, ◌+◌, ◌<◌, ◌≤◌, List, [], ◌∷◌, ◌++◌, map, length, length-append, get_or, take, drop, Bool, true, false, cond, is_some, Some, Result, Ok, Err, IfErr, IfOk, AllPairs, Contains, refl, sym, ap, subst, ◌∙◌, inl, inr, String, Global, string_bytes, string_eq, arith}
use Rattle.std.specs.Prelude.{OnOk}
use Rattle.std.specs.Map.{lookup}
use Rattle.std.specs.Str.{bytes_eq}
use Rattle.std.proofs.lemmas.Bool.{cases_Bool, false≢true}
use Rattle.std.proofs.lemmas.List.{drop_more, get_or_append_left, get_or_at, map-append, map_more, take-append-drop, take_all}
use Rattle.std.proofs.lemmas.List.Elements.{Contains-get_or}
use Rattle.std.proofs.lemmas.List.Quantifiers.{all_pairs_push}
use Rattle.std.proofs.lemmas.Slice.Eq.{bytes_eq-Decides}
use Rattle.indexmap.specs.IndexMap.{insert_entry}
use Rattle.wc_read.specs.Contents.{SpellsFuncType}
use Rattle.wc_read.specs.Fault.{SpellsNothing}
use Rattle.wc_read.specs.Formats.{Format, Joined, SpellsName, SpellsVector}
use Rattle.wc_read.specs.Options.{◌>>=◌}
use Rattle.wc_read.specs.Reading.Contents.{func_type_at}
use Rattle.wc_read.specs.Reading.Reader.{name_at, vector_at}
use Rattle.wc_read.specs.Types.{FuncTypeValue, func_type_value}
use Rattle.wc_read.specs.declared.types.FuncType.{FuncType}
use Rattle.wc_read.proofs.ContentsLemmas.{func_type_meets}
use Rattle.wc_read.proofs.MeetsLemmas.{Made, Meets, bind_meets, made_at, made_meets, one_value, same_meets, vector_meets}
use Rattle.wc_read.proofs.TypesLemmas.{name_meets}
use Rattle.wc_maps.proofs.ListLemmas.{contains_cons, contains_head, contains_none, contains_tail}
use Rattle.wc_validate.specs.Imports.Map.{required_entry}
use Rattle.wc_calls.specs.RequiredFunctions.{AreRequired, IsNotRequired, SpellsFunction, names_in}
use Rattle.wc_calls.specs.Private.RequiredFunctions.{function_at, function_view}
use Rattle.wc_calls.specs.declared.required_functions.NamedFunction.{NamedFunction}
use Rattle.wc_calls.specs.declared.required_functions.RequiredFault.{RequiredFault}
use Rattle.wc_calls.specs.declared.required_functions.RequiredFault.TheVariants.{Unread}
use Rattle.wc_calls.proofs.OptionTableLemmas.{put_last}

-- a function

named : List ℕ → FuncTypeValue → List ℕ × FuncTypeValue
named name ty = (name, ty)

abbrev SpellsParts : Format (List ℕ × FuncTypeValue)
SpellsParts = Joined SpellsName (λ name. Made SpellsFuncType (named name))

function_to : (bytes : List ℕ) (f : List ℕ × FuncTypeValue) → SpellsParts bytes f → SpellsFunction bytes f
unfolding named
function_to bytes f j = rw j.5.2 (j.1, j.2, j.3, j.4, j.5.1)

function_from : (bytes : List ℕ) (f : List ℕ × FuncTypeValue) → SpellsFunction bytes f → SpellsParts bytes f
unfolding named
function_from bytes f s = (f.0, s.0, s.1, s.2, s.3, (f.1, s.4, refl))

function_meets : Meets SpellsFunction function_at
unfolding function_at named
function_meets =
    same_meets SpellsParts SpellsFunction function_at
    (bind_meets SpellsName name_at (λ name. Made SpellsFuncType (named name)) (λ name bytes. func_type_at bytes >>= made_at (named name)) name_meets
    (λ name. made_meets SpellsFuncType func_type_at (named name) func_type_meets)) function_to function_from

pub functions_meet : Meets (SpellsVector SpellsFunction) (vector_at function_at)
functions_meet = vector_meets SpellsFunction function_at function_meets

-- bytes are functions, or not

pub not_spelled : (bytes : List ℕ) → SpellsNothing (SpellsVector SpellsFunction) bytes → IsNotRequired bytes
not_spelled bytes none fs are = none fs are.0

pub named_twice : (bytes : List ℕ) (fs : List (List ℕ × FuncTypeValue)) → SpellsVector SpellsFunction bytes fs → ¬ (AllPairs (λ m n. m ≢ n) (names_in fs))
    → IsNotRequired bytes
named_twice bytes fs spelled repeated gs are =
    repeated (subst (λ xs. AllPairs (λ m n. m ≢ n) (names_in xs))
    (one_value (SpellsVector SpellsFunction) (vector_at function_at) functions_meet bytes gs fs are.0 spelled) are.1)

-- names under which there are types

module _ (text : List ℕ) where
  abbrev is_there : List (String Global × FuncType) → Bool
  is_there types = is_some (lookup (λ (k : String Global). bytes_eq text (string_bytes k)) types)

  contains_there : (types : List (String Global × FuncType)) → is_there types ≡ true → Contains (names_in (map required_entry types)) text
  contains_there [] there = absurd (false≢true there)
  contains_there (e ∷ es) there = elim (cases_Bool (bytes_eq text (string_bytes e.0))) [
    | inl same ↦
        subst (Contains (string_bytes e.0 ∷ names_in (map required_entry es))) (sym ((bytes_eq-Decides text (string_bytes e.0)).0 same))
        (contains_head (names_in (map required_entry es)) (string_bytes e.0))
    | inr other ↦
        contains_tail (string_bytes e.0) (names_in (map required_entry es)) text (contains_there es
        (sym (ap (λ b. is_some (cond b (Some e.1) (lookup (λ (k : String Global). bytes_eq text (string_bytes k)) es))) other) ∙ there))
  ]

  there_contains : (types : List (String Global × FuncType)) → Contains (names_in (map required_entry types)) text → is_there types ≡ true
  there_contains [] h = absurd (contains_none text h)
  there_contains (e ∷ es) h = elim (cases_Bool (bytes_eq text (string_bytes e.0))) [
    | inl same ↦ ap (λ b. is_some (cond b (Some e.1) (lookup (λ (k : String Global). bytes_eq text (string_bytes k)) es))) same
    | inr other ↦
        ap (λ b. is_some (cond b (Some e.1) (lookup (λ (k : String Global). bytes_eq text (string_bytes k)) es))) other
        ∙ there_contains es (elim (contains_cons (string_bytes e.0) (names_in (map required_entry es)) text h) [
          | inl same ↦ absurd (false≢true (sym other ∙ (bytes_eq-Decides text (string_bytes e.0)).1 (sym same)))
          | inr later ↦ later
        ])
  ]

repeats : {X : Type 0} (front back : List X) (x : X) → Contains front x → ¬ (AllPairs (λ y z. y ≢ z) (front ++ x ∷ back))
repeats front back x (k, within, at) pairs =
    pairs k (length front) x within (omega (arith, length-append front (x ∷ back)))
    (get_or_append_left front (x ∷ back) x k within ∙ at ∙ sym (get_or_at front x back x (length front) refl))

-- the types of the functions that were passed, under their names, no two of which are the same
pub record HavePassed (types : List (String Global × FuncType)) (functions : List NamedFunction) (i : ℕ) : Type 0 where
  pub views : map required_entry types ≡ map function_view (take i functions)
  pub distinct : AllPairs (λ m n. m ≢ n) (names_in (map function_view (take i functions)))

-- a function more, by whether its name is there
module _ (types : List (String Global × FuncType)) (functions : List NamedFunction) (i : ℕ) (d x : NamedFunction) (there : Bool)
    (within : i < length functions) (at : x ≡ get_or functions i d)
    (found : there ≡ is_some (lookup (λ (k : String Global). bytes_eq x.name.now (string_bytes k)) types)) (passed : HavePassed types functions i) where
  front : List (List ℕ)
  front = names_in (map function_view (take i functions))

  names_cut : names_in (map function_view functions) ≡ front ++ x.name.now ∷ names_in (map function_view (drop (i + 1) functions))
  unfolding front
  names_cut =
      ap (λ fs. names_in (map function_view fs)) (sym (take-append-drop i functions)
      ∙ ap (λ fs. take i functions ++ fs) (drop_more functions i d within ∙ ap (λ f. f ∷ drop (i + 1) functions) (sym at)))
      ∙ (ap names_in (map-append function_view (take i functions) (x ∷ drop (i + 1) functions))
      ∙ map-append (λ (f : List ℕ × FuncTypeValue). f.0) (map function_view (take i functions)) (function_view x ∷ map function_view (drop (i + 1) functions)))

  pub passed_again : there ≡ true → ¬ (AllPairs (λ m n. m ≢ n) (names_in (map function_view functions)))
  unfolding front
  passed_again known pairs =
      repeats front (names_in (map function_view (drop (i + 1) functions))) x.name.now
      (subst (λ fs. Contains (names_in fs) x.name.now) passed.views (contains_there x.name.now types (sym found ∙ known)))
      (subst (AllPairs (λ m n. m ≢ n)) names_cut pairs)

  passed_more : map function_view (take (i + 1) functions) ≡ map function_view (take i functions) ++ function_view x ∷ []
  passed_more = map_more function_view functions i d within ∙ ap (λ f. map function_view (take i functions) ++ function_view f ∷ []) (sym at)

  new_name : there ≡ false → ¬ (Contains front x.name.now)
  unfolding front
  new_name absent h =
      false≢true (sym (sym found ∙ absent)
      ∙ there_contains x.name.now types (subst (λ fs. Contains (names_in fs) x.name.now) (sym passed.views) h))

  pub passed_new : (after : List (String Global × FuncType)) (name : String Global) (ty : FuncType) → there ≡ false → string_bytes name ≡ x.name.now
      → func_type_value ty ≡ func_type_value x.ty → after ≡ insert_entry string_eq types name ty → HavePassed after functions (i + 1)
  unfolding front
  passed_new after name ty absent named_as typed put =
      let fresh : is_some (lookup (λ k. bytes_eq (string_bytes name) (string_bytes k)) types) ≡ false =
      subst (λ t. is_some (lookup (λ k. bytes_eq t (string_bytes k)) types) ≡ false) (sym named_as) (sym found ∙ absent) in
      let view : required_entry (name, ty) ≡ function_view x = rw (named_as, typed) refl in
      let grown : map required_entry after ≡ map required_entry types ++ function_view x ∷ [] =
      ap (map required_entry) (put ∙ put_last types name ty fresh)
      ∙ (map-append required_entry types ((name, ty) ∷ []) ∙ ap (λ e. map required_entry types ++ e ∷ []) view) in
      record {
        views = grown ∙ ap (λ fs. fs ++ function_view x ∷ []) passed.views ∙ sym passed_more;
        distinct = subst (AllPairs (λ m n. m ≢ n))
            (sym (ap names_in passed_more
            ∙ map-append (λ (f : List ℕ × FuncTypeValue). f.0) (map function_view (take i functions)) (function_view x ∷ [])))
            (all_pairs_push (λ m n. m ≢ n) front x.name.now passed.distinct
            (λ k e small same. new_name absent (subst (Contains front) same (Contains-get_or front k e small))));
      }

-- all were passed

pub all_views : (types : List (String Global × FuncType)) (functions : List NamedFunction) (i : ℕ) → length functions ≤ i → HavePassed types functions i
    → map required_entry types ≡ map function_view functions
all_views types functions i end passed = passed.views ∙ ap (map function_view) (take_all i functions end)

pub all_distinct : (types : List (String Global × FuncType)) (functions : List NamedFunction) (i : ℕ) → length functions ≤ i → HavePassed types functions i
    → AllPairs (λ m n. m ≢ n) (names_in (map function_view functions))
all_distinct types functions i end passed =
    subst (λ fs. AllPairs (λ m n. m ≢ n) (names_in (map function_view fs))) (take_all i functions end) passed.distinct

-- functions that are read, with their types under their names; and two of one name
module _ (bytes : List ℕ) (fs gs : List NamedFunction) where
  pub are_required : {M : Type 0} (r : Result M RequiredFault) (views : M → List (List ℕ × FuncTypeValue)) → gs ≡ fs
      → SpellsVector SpellsFunction bytes (map function_view fs) → IfOk r (λ m. views m ≡ map function_view gs)
      → OnOk r (AllPairs (λ m n. m ≢ n) (names_in (map function_view gs))) → IfOk r (λ m. AreRequired bytes (views m))
  are_required (Ok m) views same spelled is distinct = (
    subst (SpellsVector SpellsFunction bytes) (sym (is ∙ ap (map function_view) same)) spelled,
    subst (λ xs. AllPairs (λ m n. m ≢ n) (names_in xs)) (sym is) distinct,
  )
  are_required (Err f) views same spelled is distinct = tt

  pub functions_unread : {M : Type 0} (r : Result M RequiredFault) → gs ≡ fs → SpellsVector SpellsFunction bytes (map function_view fs)
      → IfErr r (λ f. f ≡ Unread → ¬ (AllPairs (λ m n. m ≢ n) (names_in (map function_view gs)))) → IfErr r (λ f. f ≡ Unread → IsNotRequired bytes)
  functions_unread (Ok m) same spelled repeated = tt
  functions_unread (Err f) same spelled repeated = λ unread.
      named_twice bytes (map function_view fs) spelled
      (subst (λ xs. ¬ (AllPairs (λ m n. m ≢ n) (names_in (map function_view xs)))) same (repeated unread))
