-- Texts that are compared piece by piece: what is after a front that leaves nothing open.
use Rattle.std.proofs.Common.{◌≡◌, ◌↔◌, ℕ, Bool, true, false, IsTrue, List, [], ◌∷◌, ◌++◌, Option, Some, None, refl, sym, ap, ◌∙◌, append-nil, string_bytes}
use Rattle.std.specs.Borrow.{Bor}
use Rattle.std.specs.Option.{option_map}
use Rattle.std.specs.Str.{bytes_eq}
use Rattle.std.proofs.lemmas.List.{append_cancel_left}
use Rattle.std.proofs.lemmas.Slice.Eq.{bytes_eq-Decides}
use Rattle.semver.specs.declared.Version.{Version}
use Rattle.semver.specs.Identifiers.{parts_of}
use Rattle.wc_resolve.specs.declared.packages.PackageName.{PackageName}
use Rattle.wc_texts.specs.Characters.{at_sign, colon, slash}
use Rattle.wc_resolve.specs.Names.{IsLeftAfter, full_version, release_track, track}
use Rattle.wc_resolve.specs.Resolve.{VersionView, joined_id, member_text, versioned}
use Rattle.wc_resolve.specs.Views.{PackageNameView, package_name_view}

-- texts with this front are equal only where what is after it is
abbrev pub IsFront : (List ℕ → List ℕ) → Type 0
IsFront front = (x y : List ℕ) → front x ≡ front y → x ≡ y

module _ (front : List ℕ → List ℕ) (cancel : IsFront front) (text rest : List ℕ) (is : text ≡ front rest) where
  -- what is after a second front
  pub after_front : (next : List ℕ → List ℕ) (r : Option (Bor (List ℕ))) → IsLeftAfter rest next r
      → IsLeftAfter text (λ x. front (next x)) r
  after_front next None none = λ x e. none x (cancel rest (next x) (sym is ∙ e))
  after_front next (Some x) some = is ∙ ap front some

  -- whether all after it is a text
  pub is_after_front : (goal : List ℕ) (b : Bool) → IsTrue b ↔ (rest ≡ goal) → IsTrue b ↔ (text ≡ front goal)
  is_after_front goal b h = ((λ t. is ∙ ap front (h.0 t)), (λ e. h.1 (cancel rest goal (sym is ∙ e))))

pub refused : (P : Type 0) → ¬ P → IsTrue false ↔ P
refused P none = ((λ t. absurd (let e : false ≡ true = t in let bad : ⊥ = cc e in bad)), (λ p. absurd (none p)))

pub text_front : (a : List ℕ) → IsFront (λ x. a ++ x)
text_front a x y e = append_cancel_left a x y e

pub separator_front : (a : List ℕ) (c : ℕ) → IsFront (λ x. a ++ (c ∷ x))
separator_front a c x y e = let same : c ∷ x ≡ c ∷ y = append_cancel_left a (c ∷ x) (c ∷ y) e in cc same

pub two_separators_front : (a b : List ℕ) (c d : ℕ) → IsFront (λ x. a ++ (c ∷ (b ++ (d ∷ x))))
two_separators_front a b c d x y e = separator_front b d x y (separator_front a c (b ++ (d ∷ x)) (b ++ (d ∷ y)) e)

pub version_front : (a b name : List ℕ) → IsFront (λ x. joined_id a b (name ++ (at_sign ∷ x)))
version_front a b name x y e = separator_front name at_sign x y (two_separators_front a b colon slash (name ++ (at_sign ∷ x)) (name ++ (at_sign ∷ y)) e)

pub three_separators_front : (a b p : List ℕ) (c d m : ℕ) → IsFront (λ x. a ++ (c ∷ (b ++ (d ∷ (p ++ (m ∷ x))))))
three_separators_front a b p c d m x y e = separator_front p m x y (two_separators_front a b c d (p ++ (m ∷ x)) (p ++ (m ∷ y)) e)

-- whether texts are equal
pub texts_equal : (a b goal : List ℕ) (t : Bool) → t ≡ bytes_eq a b → b ≡ goal → IsTrue t ↔ (a ≡ goal)
texts_equal a b goal t test is = ((λ h. (bytes_eq-Decides a b).0 (sym test ∙ h) ∙ is), (λ e. test ∙ (bytes_eq-Decides a b).1 (e ∙ sym is)))

-- the track of a release before 0.1.0
pub first_track : (major minor patch : ℕ) → major ≡ 0 → minor ≡ 0 → release_track major minor patch ≡ full_version 0 0 patch []
first_track major minor patch a b = ap (λ z. release_track z minor patch) a ∙ ap (λ z. release_track 0 z patch) b

-- the id of a package with a version
pub versioned_member : (p : PackageName) (name : List ℕ) (v : Version) → p.version ≡ Some v
    → member_text track (package_name_view p) name ≡ joined_id (string_bytes p.namespace) (string_bytes p.name) (name ++ (at_sign ∷ track (parts_of v)))
versioned_member p name v is = ap (λ o. joined_id (string_bytes p.namespace) (string_bytes p.name) (versioned track name (option_map parts_of o))) is

version_after : (show : VersionView → List ℕ) (name : List ℕ) (v : Option VersionView) → (rest : List ℕ) × (versioned show name v ≡ name ++ rest)
version_after show name None = ([], sym (append-nil name))
version_after show name (Some v) = (at_sign ∷ show v, refl)

-- an id begins with the names
pub member_begins : (p : PackageNameView) (name text : List ℕ) → ((rest : List ℕ) → ¬ (text ≡ joined_id p.namespace p.name (name ++ rest))) → ¬ (text ≡ member_text track p name)
member_begins p name text none e = let tail = version_after track name p.version in none tail.0 (e ∙ ap (λ z. joined_id p.namespace p.name z) tail.1)
