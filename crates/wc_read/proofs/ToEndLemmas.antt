-- The loop that reads items to the end of the bytes.
use Rattle.std.proofs.Common.{◌≡◌, ℕ, ◌<◌, List, [], ◌∷◌, ◌++◌, length, Option, Some, None, refl, sym, ◌∙◌, ap, subst, append_assoc, append-nil, arith, true, false, eqb-true}
use Rattle.std.specs.Prelude.{◌==◌}
use Rattle.std.proofs.lemmas.Bool.{false≢true}
use Rattle.std.proofs.Math.ListN.{length-append}
use Rattle.wc_read.specs.Formats.{Format, SpellsItems}
use Rattle.wc_read.specs.Reading.Reader.{Read, appended_at}
use Rattle.wc_read.specs.Options.{◌>>=◌}
use Rattle.wc_read.proofs.OptionsLemmas.{some_none, some_pair}
use Rattle.wc_read.proofs.MeetsLemmas.{Meets, one_spelling, no_spelling}

-- the front was read: what is after it in all of the bytes is in the rest
pub record IsReadTo {A : Type 0} (Spells : Format A) (front : List A) (rest bytes : List ℕ) : Type 0 where
  pub to_all : (others : List A) → SpellsItems Spells rest others → SpellsItems Spells bytes (front ++ others)
  pub from_all : (all : List A) → SpellsItems Spells bytes all → (others : List A) × (all ≡ front ++ others) × SpellsItems Spells rest others

pub to_end : {A : Type 0} (Spells : Format A) (front : List A) (rest bytes : List ℕ) → true ≡ (length rest == 0) → IsReadTo Spells front rest bytes → SpellsItems Spells bytes front
to_end Spells front [] bytes t r = rw append-nil at (r.to_all [] refl)
to_end Spells front (b ∷ rest) bytes t r = let h : length (b ∷ rest) ≡ 0 = eqb-true (length (b ∷ rest)) 0 (sym t) in absurd (omega arith)

-- an item is after the front, or none
abbrev with_last : {A : Type 0} → List A → A × List ℕ → Option (List A × List ℕ)
with_last front x = Some (front ++ (x.0 ∷ []), x.1)

after_is : {A : Type 0} (front : List A) (o : Option (A × List ℕ)) (all : List A) (after : List ℕ) → (o >>= with_last front) ≡ Some (all, after) → (x : A) × (o ≡ Some (x, after)) × (front ++ x ∷ [] ≡ all)
after_is front None all after e = absurd cc
after_is front (Some x) all after e = let p = some_pair _ _ _ _ e in (x.0, ap (λ (b : List ℕ). Some (x.0, b)) p.1, p.0)

none_after : {A : Type 0} (front : List A) (o : Option (A × List ℕ)) → (o >>= with_last front) ≡ None → o ≡ None
none_after front None e = refl
none_after front (Some x) e = some_none _ e

-- items of which none is empty
module _ {A : Type 0} (Spells : Format A) (read : Read A) (m : Meets Spells read) (some : (x : A) → Spells [] x → ⊥) where
  nothing_in : (text rest : List ℕ) (x : A) → text ++ rest ≡ [] → Spells text x → ⊥
  nothing_in [] rest x e s = some x s
  nothing_in (b ∷ text) rest x e s = absurd cc

  pub to_more : (front : List A) (rest bytes : List ℕ) (x : A) (after : List ℕ) → IsReadTo Spells front rest bytes → read rest ≡ Some (x, after) → IsReadTo Spells (front ++ x ∷ []) after bytes
  to_more front rest bytes x after r e =
      let t = m.parses rest x after e in
      record {
        to_all = λ others s. rw append_assoc (r.to_all (x ∷ others) (t.0, after, t.1, t.2, s));
        from_all = λ all s. let o = r.from_all all s in go o.0 all o.1 o.2 t.0 t.1 t.2;
      }
    where
      go : (others all : List A) → all ≡ front ++ others → SpellsItems Spells rest others → (text : List ℕ) → rest ≡ text ++ after → Spells text x → (more : List A) × (all ≡ (front ++ x ∷ []) ++ more) × SpellsItems Spells after more
      go [] all is s text cut here = absurd (nothing_in text after x (sym cut ∙ s) here)
      go (y ∷ ys) all is s text cut here =
          let p = one_spelling Spells read m text s.0 x y after s.1 (sym cut ∙ s.2) here s.3 in
          (ys, is ∙ rw (← p.0, append_assoc) refl, subst (λ (b : List ℕ). SpellsItems Spells b ys) (sym p.1) s.4)

  pub to_fails : (front : List A) (rest bytes : List ℕ) → false ≡ (length rest == 0) → IsReadTo Spells front rest bytes → read rest ≡ None → (all : List A) → SpellsItems Spells bytes all → ⊥
  to_fails front rest bytes t r none all s = let o = r.from_all all s in go o.0 o.2
    where
      go : (others : List A) → SpellsItems Spells rest others → ⊥
      go [] s = let e : (length rest == 0) ≡ true = rw s refl in absurd (false≢true (t ∙ e))
      go (y ∷ ys) s = no_spelling Spells read m rest none s.0 s.1 y s.2 s.3

  pub to_shorter : (rest : List ℕ) (x : A) (after : List ℕ) → read rest ≡ Some (x, after) → length after < length rest
  to_shorter rest x after e = let t = m.parses rest x after e in go t.0 t.1 t.2
    where
      go : (text : List ℕ) → rest ≡ text ++ after → Spells text x → length after < length rest
      go [] cut s = absurd (some x s)
      go (b ∷ text) cut s = rw cut (omega (arith, length-append text after))

  -- the same of an item that is read after the front
  pub after_more : (front all : List A) (rest bytes after : List ℕ) → IsReadTo Spells front rest bytes → appended_at front read rest ≡ Some (all, after) → IsReadTo Spells all after bytes
  after_more front all rest bytes after r e =
      let x = after_is front (read rest) all after e in
      subst (λ (xs : List A). IsReadTo Spells xs after bytes) x.2 (to_more front rest bytes x.0 after r x.1)

  pub after_fails : (front : List A) (rest bytes : List ℕ) → false ≡ (length rest == 0) → IsReadTo Spells front rest bytes → appended_at front read rest ≡ None → (all : List A) → SpellsItems Spells bytes all → ⊥
  after_fails front rest bytes t r none = to_fails front rest bytes t r (none_after front (read rest) none)

  pub after_shorter : (front all : List A) (rest after : List ℕ) → appended_at front read rest ≡ Some (all, after) → length after < length rest
  after_shorter front all rest after e = let x = after_is front (read rest) all after e in to_shorter rest x.0 after x.1

  -- two runs of items in the same bytes are one
  pub items_unique : (xs ys : List A) (bytes : List ℕ) → SpellsItems Spells bytes xs → SpellsItems Spells bytes ys → xs ≡ ys
  items_unique [] [] bytes s t = refl
  items_unique [] (y ∷ ys) bytes s t = absurd (nothing_in t.0 t.1 y (sym t.2 ∙ s) t.3)
  items_unique (x ∷ xs) [] bytes s t = absurd (nothing_in s.0 s.1 x (sym s.2 ∙ t) s.3)
  items_unique (x ∷ xs) (y ∷ ys) bytes s t =
      let p = one_spelling Spells read m s.0 t.0 x y s.1 t.1 (sym s.2 ∙ t.2) s.3 t.3 in
      let same : xs ≡ ys = items_unique xs ys t.1 (subst (λ (b : List ℕ). SpellsItems Spells b xs) p.1 s.4) t.4 in
      rw (p.0, same) refl
