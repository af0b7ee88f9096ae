-- What a module serves, by the names of which a function is lacking.
use Rattle.std.proofs.Common.{◌≡◌, ℕ, ◌+◌, ◌<◌, Bool, true, false, not, cond, ◌&&◌, ◌||◌, ◌⊎◌, List, [], ◌∷◌, ◌++◌, length, map, take, get_or, Some, None, Result, Ok, Err, IfOk, IfErr, refl, sym, ◌∙◌, ap, subst, inl, inr}
use Rattle.std.proofs.Math.Bool.{or-false}
use Rattle.std.proofs.lemmas.Bool.{cases_Bool, false≢true}
use Rattle.std.proofs.lemmas.List.Folds.{list_any-append}
use Rattle.std.proofs.lemmas.Slice.Eq.{bytes_eq-Decides}
use Rattle.std.specs.Borrow.{Bor}
use Rattle.std.specs.List.{list_any}
use Rattle.std.specs.Str.{bytes_eq}
use Rattle.wc_maps.proofs.SetLemmas.{set_more}
use Rattle.wc_maps.specs.Texts.{HasTexts, is_in, text_of, text_pair}
use Rattle.wc_component_file.proofs.PickedLemmas.{any_here, any_more}
use Rattle.wc_component_file.specs.Private.Served.{AreLacking, IsOnlyLeft, IsOtherLeft, IsServingRefusal, is_left}
use Rattle.wc_component_file.specs.Roles.{IsServing}
use Rattle.wc_component_file.specs.Serving.{ServesNone, gives, is_from, lacks, serves}
use Rattle.wc_component_file.specs.Renamed.{original_import_name}
use Rattle.wc_component_file.specs.Told.{RoleView, another, role_view}
use Rattle.wc_component_file.specs.declared.role.Role.{Role}
use Rattle.wc_component_file.specs.declared.role.RolesRefusal.{RolesRefusal}
use Rattle.wc_component_file.specs.declared.role.RolesRefusal.TheVariants.{Memory, NoModule, NoSuchModule, Unread, Unclear}

abbrev pub TextPair : Type 0
TextPair = Bor (List ℕ) × Bor (List ℕ)

-- ---- a set, when one more name is put into it

pub name_put : (keys after : List (Bor (List ℕ))) (k : Bor (List ℕ))
    → after ≡ cond (list_any (λ y. bytes_eq k.now y.now) keys) keys (keys ++ k ∷ []) → (t : List ℕ)
    → is_in (map text_of after) t ≡ (is_in (map text_of keys) t || bytes_eq k.now t)
name_put keys after k put t =
    set_more (map text_of keys) (map text_of keys ++ k.now ∷ []) keys after k refl put (λ u. refl) t
    ∙ (list_any-append (λ x. bytes_eq x t) (map text_of keys) (k.now ∷ []) ∙ ap (λ b. is_in (map text_of keys) t || b) (or-false (bytes_eq k.now t)))

-- ---- names of which a function is lacking

pub lacking_more : (functions : List (List ℕ)) (asked : List TextPair) (k : ℕ) (d : TextPair) (old new : List (List ℕ)) (given : Bool) → k < length asked
    → AreLacking functions (map text_pair (take k asked)) old → given ≡ gives functions (get_or asked k d).1.now
    → ((t : List ℕ) → is_in new t ≡ (is_in old t || (bytes_eq (get_or asked k d).0.now t && not given)))
    → AreLacking functions (map text_pair (take (k + 1) asked)) new
lacking_more functions asked k d old new given lt are is put t =
    put t
    ∙ (ap (λ b. b || (bytes_eq (get_or asked k d).0.now t && not given)) (are t)
    ∙ (ap (λ g. list_any (lacks functions t) (map text_pair (take k asked)) || (bytes_eq (get_or asked k d).0.now t && not g)) is
    ∙ sym (any_more text_pair asked k d lt (lacks functions t))))

-- ---- names of which none is lacking

module _ (asked : List TextPair) (lacking : List (List ℕ)) where
  left_by : (from within : Bool) → from ≡ true → within ≡ false → (from && not within) ≡ true
  left_by from within f w = rw (f, w) refl

  pub left_here : (k : ℕ) (d : TextPair) → k < length asked → is_in lacking (get_or asked k d).0.now ≡ false
      → is_left (map text_pair asked) lacking (get_or asked k d).0.now ≡ true
  unfolding is_left
  left_here k d lt out =
      let x = (get_or asked k d).0.now in
      left_by (list_any (is_from x) (map text_pair asked)) (is_in lacking x)
      (any_here text_pair asked k d lt (is_from x) ((bytes_eq-Decides x x).1 refl)) out

  -- one more pair is passed: its name is left, or is not the one that is asked about
  left_step : (a b c : Bool) → ((a || b) && not c) ≡ true → ((a && not c) ≡ true) ⊎ ((b ≡ true) × (c ≡ false))
  left_step true b true h = absurd (let bad : ⊥ = cc h in bad)
  left_step true b false h = inl refl
  left_step false true true h = absurd (let bad : ⊥ = cc h in bad)
  left_step false true false h = inr (refl, refl)
  left_step false false c h = absurd (let bad : ⊥ = cc h in bad)

  pub left_more : (k : ℕ) (d : TextPair) (n : List ℕ) → k < length asked → is_left (map text_pair (take (k + 1) asked)) lacking n ≡ true
      → (is_left (map text_pair (take k asked)) lacking n ≡ true) ⊎ (((get_or asked k d).0.now ≡ n) × (is_in lacking n ≡ false))
  unfolding is_left
  left_more k d n lt h =
      let x = (get_or asked k d).0.now in
      let before = list_any (is_from n) (map text_pair (take k asked)) in
      let parts = subst (λ b. (b && not (is_in lacking n)) ≡ true) (any_more text_pair asked k d lt (is_from n)) h in
      elim (left_step before (bytes_eq x n) (is_in lacking n) parts) [
        | inl old ↦ inl old
        | inr new ↦ inr ((bytes_eq-Decides x n).0 new.0, new.1)
      ]

  pub none_left : (k : ℕ) (d : TextPair) (n : List ℕ) → k < length asked → is_in lacking (get_or asked k d).0.now ≡ true
      → is_left (map text_pair (take k asked)) lacking n ≡ false → is_left (map text_pair (take (k + 1) asked)) lacking n ≡ false
  none_left k d n lt there before =
      elim (cases_Bool (is_left (map text_pair (take (k + 1) asked)) lacking n)) [
        | inl left ↦ elim (left_more k d n lt left) [
          | inl old ↦ absurd (false≢true (sym before ∙ old))
          | inr new ↦ absurd (false≢true (sym new.1 ∙ (ap (is_in lacking) (sym new.0) ∙ there)))
        ]
        | inr gone ↦ gone
      ]

  another_no : (a b : Bool) → (not a && not b) ≡ false → a ≡ false → b ≡ true
  another_no false true h differ = refl
  another_no false false h differ = absurd (false≢true (sym h))
  another_no true b h differ = absurd (false≢true (sym differ))

  -- the pair that is passed has the name, or one that is lacking
  pub only_more : (k : ℕ) (d : TextPair) (name : List ℕ) → k < length asked
      → (not (bytes_eq (get_or asked k d).0.now name) && not (is_in lacking (get_or asked k d).0.now)) ≡ false
      → ((n : List ℕ) → is_left (map text_pair (take k asked)) lacking n ≡ true → n ≡ name)
      → (n : List ℕ) → is_left (map text_pair (take (k + 1) asked)) lacking n ≡ true → n ≡ name
  only_more k d name lt passed before n left =
      let x = (get_or asked k d).0.now in
      elim (left_more k d n lt left) [
        | inl old ↦ before n old
        | inr new ↦ elim (cases_Bool (bytes_eq x name)) [
          | inl same ↦ sym new.0 ∙ (bytes_eq-Decides x name).0 same
          | inr differ ↦ absurd (
              let there : is_in lacking x ≡ true = another_no (bytes_eq x name) (is_in lacking x) passed differ in
              false≢true (sym new.1 ∙ (ap (is_in lacking) (sym new.0) ∙ there))
              )
        ]
      ]

  another_yes : (a b : Bool) → (not a && not b) ≡ true → (a ≡ false) × (b ≡ false)
  another_yes false false h = (refl, refl)
  another_yes false true h = absurd (false≢true h)
  another_yes true b h = absurd (false≢true h)

  -- another name is left
  pub other_left : (k : ℕ) (d : TextPair) (name : List ℕ) → k < length asked
      → (not (bytes_eq (get_or asked k d).0.now name) && not (is_in lacking (get_or asked k d).0.now)) ≡ true
      → IsOtherLeft (map text_pair asked) lacking name Unclear
  other_left k d name lt h =
      let x = (get_or asked k d).0.now in
      let parts = another_yes (bytes_eq x name) (is_in lacking x) h in
      (x, left_here k d lt parts.1, λ same. false≢true (sym parts.0 ∙ (bytes_eq-Decides x name).1 (sym same)))

-- ---- what is left is what is served

module _ (functions : List (List ℕ)) (asked : List (List ℕ × List ℕ)) (lacking : List (List ℕ)) (are : AreLacking functions asked lacking) where
  served_left : (n : List ℕ) → serves asked functions n ≡ is_left asked lacking n
  unfolding serves is_left
  served_left n = ap (λ b. list_any (is_from n) asked && not b) (sym (are n))

  pub none_served : ((n : List ℕ) → is_left asked lacking n ≡ false) → ServesNone asked functions
  none_served none n = served_left n ∙ none n

  pub one_served : (name : List ℕ) (role : RoleView) → is_left asked lacking name ≡ true → IsOnlyLeft asked lacking name role
      → IsServing asked functions role
  one_served name role it only =
      subst (IsServing asked functions) (sym only.is) (record {
        it = served_left name ∙ it;
        only = λ other served. only.only other (sym (served_left other) ∙ served);
      })

  pub two_served : (name : List ℕ) (r : RolesRefusal) → is_left asked lacking name ≡ true → IsOtherLeft asked lacking name r
      → IsServingRefusal asked functions r
  two_served name Unclear it also = record {
    first = name;
    second = also.0;
    serves_first = served_left name ∙ it;
    serves_second = served_left also.0 ∙ also.1;
    differ = also.2;
  }
  two_served name Memory it also = tt
  two_served name NoModule it also = also
  two_served name NoSuchModule it also = also
  two_served name (Unread position fault place) it also = also

  pub one_ok : (name : List ℕ) (r : Result Role RolesRefusal) → is_left asked lacking name ≡ true → IfOk r (λ x. IsOnlyLeft asked lacking name (role_view x))
      → IfOk r (λ x. IsServing asked functions (role_view x))
  one_ok name (Ok role) it only = one_served name (role_view role) it only
  one_ok name (Err e) it only = tt

  pub two_err : (name : List ℕ) (r : Result Role RolesRefusal) → is_left asked lacking name ≡ true → IfErr r (IsOtherLeft asked lacking name)
      → IfErr r (IsServingRefusal asked functions)
  two_err name (Ok role) it also = tt
  two_err name (Err e) it also = two_served name e it also

-- ---- what is given

pub and_one : (a b : Bool) → b ≡ true → a ≡ (a && b)
and_one true b is = sym is
and_one false b is = refl

module _ (functions keys : List (List ℕ)) (name : List ℕ) (same : HasTexts functions keys) where
  pub given_itself : is_in keys name ≡ true → true ≡ gives functions name
  unfolding gives
  given_itself there = rw (sym (same name) ∙ there) refl

  pub given_original : is_in keys name ≡ false → (original : List ℕ) → original_import_name name ≡ Some original → (b : Bool) → b ≡ is_in keys original
      → b ≡ gives functions name
  unfolding gives
  given_original out original is b there = rw (sym (same name) ∙ out, is) (there ∙ same original)

  pub given_none : is_in keys name ≡ false → original_import_name name ≡ None → false ≡ gives functions name
  unfolding gives
  given_none out is = rw (sym (same name) ∙ out, is) refl
