-- Items to the first that passes a test, read in a loop.
use Rattle.std.proofs.Common.{◌≡◌, ℕ, zero, suc, ◌<◌, ◌≤◌, List, [], ◌∷◌, ◌++◌, length, Bool, true, false, Option, Some, None, refl, sym, ◌∙◌, ap, subst, append_assoc, append-nil, arith, inl, inr, ◌⊎◌}
use Rattle.std.specs.Prelude.{if◌then◌else◌}
use Rattle.std.proofs.Math.ListN.{length-append}
use Rattle.wc_read.specs.Formats.{Format, SpellsItems}
use Rattle.wc_read.specs.Reading.Reader.{Read}
use Rattle.wc_read.specs.Options.{◌>>=◌}
use Rattle.wc_read.specs.Reading.Inits.{until_at}
use Rattle.wc_read.proofs.OptionsLemmas.{some_none, some_pair, bind_some, bind_none}
use Rattle.wc_read.proofs.CountedLemmas.{after_front}
use Rattle.wc_read.proofs.MeetsLemmas.{Meets, bind_is}
use Rattle.wc_read.proofs.ToEndLemmas.{to_shorter}

-- the last item is the first that passes the test
abbrev pub StopsAt : {A : Type 0} → (A → Bool) → List A → Type 0
StopsAt last [] = ⊥
StopsAt last (x ∷ xs) = ((last x ≡ true) × (xs ≡ [])) ⊎ ((last x ≡ false) × StopsAt last xs)

abbrev pub SpellsUntil : {A : Type 0} → Format A → (A → Bool) → Format (List A)
SpellsUntil Spells last bytes xs = SpellsItems Spells bytes xs × StopsAt last xs

pub chosen : {A : Type 0} (c : Bool) (x y z : A) → (if c then x else y) ≡ z → ((c ≡ true) × (x ≡ z)) ⊎ ((c ≡ false) × (y ≡ z))
chosen true x y z e = inl (refl, e)
chosen false x y z e = inr (refl, e)

abbrev cons_item : {A : Type 0} → A → List A × List ℕ → Option (List A × List ℕ)
cons_item x others = Some (x ∷ others.0, others.1)

abbrev next_item : {A : Type 0} → (A → Bool) → Read A → ℕ → A × List ℕ → Option (List A × List ℕ)
next_item last read steps first = if last first.0 then Some (first.0 ∷ [], first.1) else (until_at last read steps first.1 >>= cons_item first.0)

-- items were read, and there are steps for the bytes that are left
pub record IsUntilPart {A : Type 0} (last : A → Bool) (read : Read A) (front : List A) (bytes : List ℕ) (total : Option (List A × List ℕ)) : Type 0 where
  pub steps : ℕ
  pub enough : length bytes ≤ steps
  pub gives : total ≡ (until_at last read steps bytes >>= after_front front)

record HasStep {A : Type 0} (last : A → Bool) (read : Read A) (front : List A) (x : A) (after : List ℕ) (total : Option (List A × List ℕ)) : Type 0 where
  steps : ℕ
  enough : length after ≤ steps
  gives : total ≡ (next_item last read steps (x, after) >>= after_front front)

complete : {A : Type 0} (o : Option (List A × List ℕ)) → o ≡ (o >>= after_front [])
complete None = refl
complete (Some x) = refl

one_more : {A : Type 0} (front : List A) (x : A) (o : Option (List A × List ℕ)) → ((o >>= cons_item x) >>= after_front front) ≡ (o >>= after_front (front ++ x ∷ []))
one_more front x None = refl
one_more front x (Some others) = rw append_assoc refl

pub until_start : {A : Type 0} (last : A → Bool) (read : Read A) (bytes : List ℕ) → IsUntilPart last read [] bytes (until_at last read (length bytes) bytes)
until_start last read bytes = record { steps = length bytes; enough = omega arith; gives = complete (until_at last read (length bytes) bytes) }

-- items of which none is empty
module _ {A : Type 0} (Spells : Format A) (read : Read A) (m : Meets Spells read) (some : (x : A) → Spells [] x → ⊥) (last : A → Bool) where
  has_bytes : (text : List ℕ) (x : A) → Spells text x → 0 < length text
  has_bytes [] x s = absurd (some x s)
  has_bytes (b ∷ text) x s = omega arith

  taken : (steps : ℕ) (bytes : List ℕ) (xs : List A) (rest : List ℕ) → until_at last read steps bytes ≡ Some (xs, rest) → (text : List ℕ) × (bytes ≡ text ++ rest) × SpellsUntil Spells last text xs
  unfolding until_at
  taken zero bytes xs rest e = some_none (xs, rest) (sym e)
  taken (suc steps) bytes xs rest e =
      let s = bind_is (read bytes) (next_item last read steps) (xs, rest) e in
      let t = m.parses bytes s.0.0 s.0.1 s.1 in
      elim (chosen (last s.0.0) _ _ (Some (xs, rest)) s.2) [
        | inl p ↦
            let q = some_pair (s.0.0 ∷ []) xs s.0.1 rest p.1 in
            (t.0, t.1 ∙ ap (λ (r : List ℕ). t.0 ++ r) q.1, subst (λ (ys : List A). SpellsUntil Spells last t.0 ys) q.0 ((t.0, [], sym (append-nil t.0), t.2, refl), inl (p.0, refl)))
        | inr p ↦
            let u = bind_is (until_at last read steps s.0.1) (cons_item s.0.0) (xs, rest) p.1 in
            let q = some_pair (s.0.0 ∷ u.0.0) xs u.0.1 rest u.2 in
            let v = taken steps s.0.1 u.0.0 u.0.1 u.1 in (
              t.0 ++ v.0,
              t.1 ∙ ap (λ (r : List ℕ). t.0 ++ r) (v.1 ∙ ap (λ (r : List ℕ). v.0 ++ r) q.1) ∙ sym (append_assoc t.0 v.0 rest),
              subst (λ (ys : List A). SpellsUntil Spells last (t.0 ++ v.0) ys) q.0 ((t.0, v.0, refl, t.2, v.2.0), inr (p.0, v.2.1)),
            )
      ]

  again : (xs : List A) (steps : ℕ) (text rest : List ℕ) → length text ≤ steps → SpellsItems Spells text xs → StopsAt last xs → until_at last read steps (text ++ rest) ≡ Some (xs, rest)
  unfolding until_at
  again [] steps text rest bounded s stop = absurd stop
  again (x ∷ xs) zero text rest bounded s stop = absurd (omega (arith, bounded, ap length s.2, length-append s.0 s.1, has_bytes s.0 x s.3))
  again (x ∷ xs) (suc steps) text rest bounded s stop =
      let cut : text ++ rest ≡ s.0 ++ (s.1 ++ rest) = ap (λ (r : List ℕ). r ++ rest) s.2 ∙ append_assoc s.0 s.1 rest in
      let here = ap (λ (r : List ℕ). read r >>= next_item last read steps) cut ∙ bind_some (read (s.0 ++ (s.1 ++ rest))) (next_item last read steps) (x, s.1 ++ rest) (m.again s.0 x (s.1 ++ rest) s.3) in
      let left : length s.1 ≤ steps = omega (arith, bounded, ap length s.2, length-append s.0 s.1, has_bytes s.0 x s.3) in
      elim stop [
        | inl p ↦
            let none : s.1 ≡ [] = subst (λ (ys : List A). SpellsItems Spells s.1 ys) p.1 s.4 in
            here ∙ rw (p.0, p.1, none) refl
        | inr p ↦ here ∙ rw p.0 (bind_some (until_at last read steps (s.1 ++ rest)) (cons_item x) (xs, rest) (again xs steps s.1 rest left s.4 p.1))
      ]

  pub until_meets : Meets (SpellsUntil Spells last) (λ bytes. until_at last read (length bytes) bytes)
  until_meets = record {
    parses = λ bytes xs rest e. taken (length bytes) bytes xs rest e;
    again = λ text xs rest s. again xs (length (text ++ rest)) text rest (omega (arith, length-append text rest)) s.0 s.1;
  }

  -- with a step for each byte, more steps give the same
  pub same_steps : (s t : ℕ) (bytes : List ℕ) → length bytes ≤ s → length bytes ≤ t → until_at last read s bytes ≡ until_at last read t bytes
  same_steps s t bytes h k = by (until_at last read s bytes) (until_at last read t bytes) refl refl
    where
      found_in : (n o : ℕ) (xs : List A) (rest : List ℕ) → length bytes ≤ o → until_at last read n bytes ≡ Some (xs, rest) → until_at last read o bytes ≡ Some (xs, rest)
      found_in n o xs rest within e =
          let p = taken n bytes xs rest e in
          let short : length p.0 ≤ o = omega (arith, within, ap length p.1, length-append p.0 rest) in
          subst (λ (b : List ℕ). until_at last read o b ≡ Some (xs, rest)) (sym p.1) (again xs o p.0 rest short p.2.0 p.2.1)

      by : (a b : Option (List A × List ℕ)) → until_at last read s bytes ≡ a → until_at last read t bytes ≡ b → a ≡ b
      by None None e f = refl
      by None (Some (ys, rest)) e f = sym e ∙ found_in t s ys rest h f
      by (Some (xs, rest)) b e f = sym (found_in s t xs rest k e) ∙ f

  -- the loop

  has_step : (front : List A) (rest : List ℕ) (total : Option (List A × List ℕ)) (x : A) (after : List ℕ) → IsUntilPart last read front rest total → read rest ≡ Some (x, after) → HasStep last read front x after total
  unfolding until_at
  has_step front rest total x after p e = by p.steps p.enough p.gives
    where
      by : (steps : ℕ) → length rest ≤ steps → total ≡ (until_at last read steps rest >>= after_front front) → HasStep last read front x after total
      by zero enough gives = absurd (omega (arith, enough, to_shorter Spells read m some rest x after e))
      by (suc steps) enough gives = record {
        steps = steps;
        enough = omega (arith, enough, to_shorter Spells read m some rest x after e);
        gives = gives ∙ ap (λ o. o >>= after_front front) (bind_some (read rest) (next_item last read steps) (x, after) e);
      }

  pub until_end : (front : List A) (rest : List ℕ) (total : Option (List A × List ℕ)) (x : A) (after : List ℕ) → IsUntilPart last read front rest total → read rest ≡ Some (x, after) → last x ≡ true → total ≡ Some (front ++ x ∷ [], after)
  until_end front rest total x after p e t = let h = has_step front rest total x after p e in h.gives ∙ rw t refl

  pub until_more : (front : List A) (rest : List ℕ) (total : Option (List A × List ℕ)) (x : A) (after : List ℕ) → IsUntilPart last read front rest total → read rest ≡ Some (x, after) → last x ≡ false → IsUntilPart last read (front ++ x ∷ []) after total
  until_more front rest total x after p e t =
      let h = has_step front rest total x after p e in
      record { steps = h.steps; enough = h.enough; gives = h.gives ∙ rw t (one_more front x (until_at last read h.steps after)) }

  none_at : (steps : ℕ) (rest : List ℕ) → read rest ≡ None → until_at last read steps rest ≡ None
  unfolding until_at
  none_at zero rest none = refl
  none_at (suc steps) rest none = bind_none (read rest) (next_item last read steps) none

  pub until_fails : (front : List A) (rest : List ℕ) (total : Option (List A × List ℕ)) → IsUntilPart last read front rest total → read rest ≡ None → total ≡ None
  until_fails front rest total p none = p.gives ∙ bind_none _ (after_front front) (none_at p.steps rest none)
