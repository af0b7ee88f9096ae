-- `==` of keys, ids and texts says whether they are equal.
use Rattle.std.proofs.Common.{◌≡◌, ◌↔◌, ℕ, Bool, true, false, List, String, Option, Some, inl, inr, refl, sym, ap, ◌∙◌, nat_eq, string_bytes, string_eq}
use Rattle.std.specs.Str.{bytes_eq}
use Rattle.std.specs.declared.alloc.Global.{Global}
use Rattle.std.proofs.lemmas.Slice.Eq.{bytes_eq-Decides}
use Rattle.std.proofs.lemmas.Bool.Decides.{eqb_tells}
use Rattle.wc_resolve.specs.declared.ids.InterfaceId.{InterfaceId}
use Rattle.wc_resolve.specs.declared.worlds.WorldKey.{WorldKey}
use Rattle.wc_resolve.specs.declared.worlds.WorldKey.TheVariants.{Name, Interface as InterfaceKey}
use Rattle.wc_resolve.specs.contracts.worlds.WorldKeyPartialEq.TheImpl.{eq-value as key_eq}
use Rattle.wc_resolve.specs.contracts.ids.InterfaceIdPartialEq.TheImpl.{eq-value as id_eq}
use Rattle.wc_resolve.specs.Views.{KeyView, plain_key, interface_key, key_view}

pub nat_from : (a b : ℕ) → nat_eq a b ≡ true → a ≡ b
nat_from a b h = elim (eqb_tells a b) [ inl e ↦ e.1 | inr e ↦ absurd (let f : false ≡ true = sym e.0 ∙ h in let bad : ⊥ = cc f in bad) ]

pub nat_to : (a b : ℕ) → a ≡ b → nat_eq a b ≡ true
nat_to a b h = elim (eqb_tells a b) [ inl e ↦ e.0 | inr e ↦ absurd (e.1 h) ]

pub ids_law : (a b : InterfaceId) → (id_eq.it a b ≡ true) ↔ (a.0 ≡ b.0)
ids_law a b = (nat_from a.0 b.0, nat_to a.0 b.0)

pub texts_law : (a b : String Global) → (string_eq a b ≡ true) ↔ (string_bytes a ≡ string_bytes b)
texts_law a b = bytes_eq-Decides (string_bytes a) (string_bytes b)

pub keys_law : (a b : WorldKey) → (key_eq.it a b ≡ true) ↔ (key_view a ≡ key_view b)
keys_law (Name n) (Name m) = (
  (λ h. ap plain_key ((texts_law n m).0 h)),
  (λ e. (texts_law n m).1 (let same : string_bytes n ≡ string_bytes m = cc e in same)),
)
keys_law (Name n) (InterfaceKey j) = ((λ h. absurd (let bad : ⊥ = cc h in bad)), (λ e. absurd (let bad : ⊥ = cc e in bad)))
keys_law (InterfaceKey i) (Name m) = ((λ h. absurd (let bad : ⊥ = cc h in bad)), (λ e. absurd (let bad : ⊥ = cc e in bad)))
keys_law (InterfaceKey i) (InterfaceKey j) = (
  (λ h. ap interface_key ((ids_law i j).0 h)),
  (λ e. (ids_law i j).1 (let same : i.0 ≡ j.0 = cc e in same)),
)

-- of a name, that is a text
pub names_law : (n : Option (List ℕ)) (s : String Global) → n ≡ Some (string_bytes s) → (y : String Global) → (string_eq s y ≡ true) ↔ (n ≡ Some (string_bytes y))
names_law n s is y = (
  (λ h. is ∙ ap (λ (z : List ℕ). Some z) ((texts_law s y).0 h)),
  (λ e. (texts_law s y).1 (let same : Some (string_bytes s) ≡ Some (string_bytes y) = sym is ∙ e in let bytes : string_bytes s ≡ string_bytes y = cc same in bytes)),
)

-- whether two keys are equal, as they are seen

abbrev pub is_plain_key : List ℕ → KeyView → Bool
is_plain_key n (plain_key m) = bytes_eq n m
is_plain_key n (interface_key i) = false

abbrev pub is_interface_key : ℕ → KeyView → Bool
is_interface_key i (plain_key m) = false
is_interface_key i (interface_key j) = nat_eq i j

abbrev pub key_view_eq : KeyView → KeyView → Bool
key_view_eq (plain_key n) k = is_plain_key n k
key_view_eq (interface_key i) k = is_interface_key i k

pub keys_viewed : (a b : WorldKey) → key_eq.it a b ≡ key_view_eq (key_view a) (key_view b)
keys_viewed (Name n) (Name m) = refl
keys_viewed (Name n) (InterfaceKey j) = refl
keys_viewed (InterfaceKey i) (Name m) = refl
keys_viewed (InterfaceKey i) (InterfaceKey j) = refl
