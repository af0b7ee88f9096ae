-- Texts that are put together: a text is split in one way at the first of a byte.
use Rattle.std.proofs.Common.{◌≡◌, ◌≢◌, ℕ, zero, suc, List, [], ◌∷◌, ◌++◌, Option, Some, None, inl, inr, refl, sym, ap, ◌∙◌, subst, arith, append_assoc, codes, Bool, true, false, cond, nat_eq, eq-eqb}
use Rattle.std.specs.Borrow.{Bor}
use Rattle.std.specs.Option.{MatchOption, option_copied}
use Rattle.std.proofs.lemmas.List.{append_cancel_left, append_cancel_right}
use Rattle.wc_read.specs.declared.types.ValType.{ValType}
use Rattle.wc_read.specs.declared.types.ValType.TheVariants.{I32, I64, F32, F64, V128, FuncRef, ExternRef, FuncRefNonNull, ExternRefNonNull, TypeRef}
use Rattle.wc_names.specs.Builtins.{pointer_suffixes, slot_prefixes}
use Rattle.wc_names.specs.Finds.{Finds}
use Rattle.wc_names.specs.Texts.{SpellsNumber, IsOneOf, IsChoice, IsSlot, Lacks, HasNoSlot, HasSlot}

pub lacks_head : (c b : ℕ) (bs : List ℕ) → Lacks c (b ∷ bs) → b ≢ c
lacks_head c b bs lacks = lacks 0 (omega arith)

pub lacks_tail : (c b : ℕ) (bs : List ℕ) → Lacks c (b ∷ bs) → Lacks c bs
lacks_tail c b bs lacks i l = lacks (suc i) (omega arith)

pub lacks_cons : (c b : ℕ) (bs : List ℕ) → b ≢ c → Lacks c bs → Lacks c (b ∷ bs)
lacks_cons c b bs other lacks zero l = other
lacks_cons c b bs other lacks (suc i) l = lacks i (omega arith)

pub lacks_append : (c : ℕ) (a b : List ℕ) → Lacks c a → Lacks c b → Lacks c (a ++ b)
lacks_append c [] b la lb = lb
lacks_append c (x ∷ xs) b la lb = lacks_cons c x (xs ++ b) (lacks_head c x xs la) (lacks_append c xs b (lacks_tail c x xs la) lb)

-- the end of a text that lacks a byte lacks it
pub lacks_after : (c : ℕ) (a b : List ℕ) → Lacks c (a ++ b) → Lacks c b
lacks_after c [] b l = l
lacks_after c (x ∷ xs) b l = lacks_after c xs b (lacks_tail c x (xs ++ b) l)

-- a test of whether a text lacks a byte, which computes
abbrev pub lacks : ℕ → List ℕ → Bool
lacks c [] = true
lacks c (b ∷ bs) = cond (nat_eq b c) false (lacks c bs)

lacks_step : (c b : ℕ) (bs : List ℕ) (t : Bool) → nat_eq b c ≡ t → cond t false (lacks c bs) ≡ true → (lacks c bs ≡ true → Lacks c bs) → Lacks c (b ∷ bs)
lacks_step c b bs true same h rest = absurd (let bad : ⊥ = cc h in bad)
lacks_step c b bs false same h rest = lacks_cons c b bs (λ e. let t : true ≡ false = sym (eq-eqb b c e) ∙ same in let bad : ⊥ = cc t in bad) (rest h)

pub lacks_by_test : (c : ℕ) (text : List ℕ) → lacks c text ≡ true → Lacks c text
lacks_by_test c [] h = λ i l. absurd (let bad : ⊥ = omega (arith, l) in bad)
lacks_by_test c (b ∷ bs) h = lacks_step c b bs (nat_eq b c) refl h (lacks_by_test c bs)

pub split_unique : (c : ℕ) (a b x y : List ℕ) → Lacks c a → Lacks c b → a ++ (c ∷ x) ≡ b ++ (c ∷ y) → (a ≡ b) × (x ≡ y)
split_unique c [] [] x y la lb e = (refl, cc e)
split_unique c [] (b ∷ bs) x y la lb e = absurd (lacks_head c b bs lb (let h : c ≡ b = cc e in sym h))
split_unique c (a ∷ more) [] x y la lb e = absurd (lacks_head c a more la (cc e))
split_unique c (a ∷ more) (b ∷ bs) x y la lb e =
    let rest : more ++ (c ∷ x) ≡ bs ++ (c ∷ y) = cc e in
    let both : (more ≡ bs) × (x ≡ y) = split_unique c more bs x y (lacks_tail c a more la) (lacks_tail c b bs lb) rest in
    let first : a ≡ b = cc e in
    (cc (first, both.0), both.1)

-- a text that has the byte doesn't lack it
pub not_lacking : (c : ℕ) (text first last : List ℕ) → Lacks c text → text ≡ first ++ (c ∷ last) → ⊥
not_lacking c text [] last lacks e = lacks_head c c last (subst (Lacks c) e lacks) refl
not_lacking c [] (b ∷ bs) last lacks e = absurd (let bad : ⊥ = cc e in bad)
not_lacking c (a ∷ more) (b ∷ bs) last lacks e = not_lacking c more bs last (lacks_tail c a more lacks) (let rest : more ≡ bs ++ (c ∷ last) = cc e in rest)

pub between_is : (name first last rest : List ℕ) (r : Option (Bor (List ℕ))) → name ≡ first ++ rest → Finds (option_copied r) (λ (x : List ℕ). rest ≡ x ++ last)
    → Finds (option_copied r) (λ (x : List ℕ). name ≡ first ++ (x ++ last))
between_is name first last rest None is none = λ x e. none x (append_cancel_left first rest (x ++ last) (sym is ∙ e))
between_is name first last rest (Some x) is some = is ∙ ap (λ z. first ++ z) some

pub no_number : (text prefix digits rest : List ℕ) (n : ℕ) → text ≡ prefix ++ digits → ((m : ℕ) → ¬ SpellsNumber m digits) → text ≡ prefix ++ rest
    → ¬ SpellsNumber n rest
no_number text prefix digits rest n is none e s = none n (subst (λ z. SpellsNumber n z) (append_cancel_left prefix rest digits (sym e ∙ is)) s)

-- a text and a suffix between two texts
pub choice_none : (name first last suffix : List ℕ) → name ≡ first ++ (suffix ++ last) → suffix ≢ [] → suffix ≢ codes "-i32" → suffix ≢ codes "-i64"
    → (t : ValType) → ¬ IsChoice first (pointer_suffixes t) last name
choice_none name first last suffix is a b d t h = at t h.1 where
  same : suffix ≡ h.0
  same = append_cancel_right suffix h.0 last (append_cancel_left first (suffix ++ last) (h.0 ++ last) (sym is ∙ h.2))

  at : (t : ValType) → IsOneOf (pointer_suffixes t) h.0 → ⊥
  at I32 (inl e) = a (same ∙ e)
  at I32 (inr e) = b (same ∙ e)
  at I64 e = d (same ∙ e)
  at F32 e = e
  at F64 e = e
  at V128 e = e
  at FuncRef e = e
  at ExternRef e = e
  at FuncRefNonNull e = e
  at ExternRefNonNull e = e
  at (TypeRef nullable index) e = e

-- a number after a prefix, and its type
pub slot_found : (name first last text prefix : List ℕ) (u : ValType) (r : ValType × ℕ) → name ≡ first ++ (text ++ last) → IsOneOf (slot_prefixes u) prefix
    → HasSlot u text prefix r → IsSlot first (slot_prefixes r.0) r.1 last name
slot_found name first last text prefix u r is one has = (
  prefix,
  has.1,
  subst (λ z. IsOneOf (slot_prefixes z) prefix) (sym has.0) one,
  has.3,
  is ∙ ap (λ z. first ++ z) (ap (λ z. z ++ last) has.2 ∙ append_assoc prefix has.1 last),
)

slot_none : (name first last text : List ℕ) → name ≡ first ++ (text ++ last) → HasNoSlot text (codes "i64-") → HasNoSlot text (codes "i32-") → HasNoSlot text []
    → (t : ValType) (n : ℕ) → ¬ IsSlot first (slot_prefixes t) n last name
slot_none name first last text is no64 no32 bare t n h = at t h.2 where
  same : text ≡ h.0 ++ h.1
  same =
      append_cancel_right text (h.0 ++ h.1) last (append_cancel_left first (text ++ last) ((h.0 ++ h.1) ++ last)
      (sym is ∙ (h.4 ∙ ap (λ z. first ++ z) (sym (append_assoc h.0 h.1 last)))))

  at : (t : ValType) → IsOneOf (slot_prefixes t) h.0 → ⊥
  at I32 (inl e) = bare h.1 n (same ∙ ap (λ z. z ++ h.1) e) h.3
  at I32 (inr e) = no32 h.1 n (same ∙ ap (λ z. z ++ h.1) e) h.3
  at I64 e = no64 h.1 n (same ∙ ap (λ z. z ++ h.1) e) h.3
  at F32 e = e
  at F64 e = e
  at V128 e = e
  at FuncRef e = e
  at ExternRef e = e
  at FuncRefNonNull e = e
  at ExternRefNonNull e = e
  at (TypeRef nullable index) e = e

pub slot_end : (name first last text : List ℕ) (r : Option (ValType × ℕ)) → name ≡ first ++ (text ++ last) → HasNoSlot text (codes "i64-")
    → HasNoSlot text (codes "i32-") → MatchOption r (HasNoSlot text []) (HasSlot I32 text [])
    → Finds r (λ (x : ValType × ℕ). IsSlot first (slot_prefixes x.0) x.1 last name)
slot_end name first last text None is no64 no32 bare = λ x. slot_none name first last text is no64 no32 bare x.0 x.1
slot_end name first last text (Some x) is no64 no32 has = slot_found name first last text [] I32 x is (inl refl) has

-- what is between the texts
pub slot_middle : (name first last : List ℕ) (t : ValType) (n : ℕ) (h : IsSlot first (slot_prefixes t) n last name) → name ≡ first ++ ((h.0 ++ h.1) ++ last)
slot_middle name first last t n h = h.4 ∙ ap (λ z. first ++ z) (sym (append_assoc h.0 h.1 last))
