-- One more import gets a name: what is known of the numbers then.
use Rattle.std.proofs.Common.{◌≡◌, ◌≢◌, ℕ, zero, suc, ◌+◌, ◌^◌, ◌<◌, ◌≤◌, ◌⊎◌, false, List, [], ◌∷◌, ◌++◌, length, set, Option, Some, None, inl, inr, refl, sym, ap, subst, ◌∙◌, arith}
use Rattle.std.specs.Prelude.{slice_get}
use Rattle.std.specs.List.{Contains}
use Rattle.std.specs.Str.{bytes_eq}
use Rattle.std.proofs.lemmas.Bool.{cases_eq, cases_order}
use Rattle.std.proofs.lemmas.List.Elements.{Contains-push_cases, Contains-push, Contains-append_left}
use Rattle.std.proofs.lemmas.Option.{slice_get_within, get_or_from_slice_get}
use Rattle.wc_dedupe.specs.Renaming.{ImportName, name_with_number, NamesOne}
use Rattle.wc_dedupe.specs.Private.Numbers.{numbered, IsNumberOf, IsMade, AreNumbers, IsTaken, TakesFree, GivesNumber, Gives, given_name}
use Rattle.wc_dedupe.proofs.NumberedLemmas.{unnumbered, some_number_free}
use Rattle.wc_dedupe.proofs.NamePositionLemmas.{slice_get_set, slice_get_set_other}
use Rattle.wc_dedupe.proofs.RenamedLemmas.{bytes_eq-name_with_number}

abbrev Each : List ImportName → List ImportName → List ℕ → Type 0
Each known given numbers = (p : ℕ) (x : ImportName) → slice_get known p ≡ Some x → (v : ℕ) × (slice_get numbers p ≡ Some v) × IsNumberOf given x v

abbrev Made : List ImportName → List ImportName → List ℕ → Type 0
Made known given numbers = (x : ImportName) → Contains given x → Contains known x ⊎ IsMade known numbers x

same_some : {X : Type 0} (o : Option X) (a b : X) → o ≡ Some a → o ≡ Some b → a ≡ b
same_some o a b e f = let both : Some a ≡ Some b = sym e ∙ f in cc

contains_at : (known : List ImportName) (p : ℕ) (x : ImportName) → slice_get known p ≡ Some x → Contains known x
contains_at known p x e = (p, slice_get_within known p x e, get_or_from_slice_get known p x x e)

number_at : (known given : List ImportName) (numbers : List ℕ) → Each known given numbers → (p : ℕ) (x : ImportName) (v : ℕ) → slice_get known p ≡ Some x → slice_get numbers p ≡ Some v → IsNumberOf given x v
number_at known given numbers each p x v at is =
    let e = each p x at in
    subst (λ (w : ℕ). IsNumberOf given x w) (same_some (slice_get numbers p) e.0 v e.1 is) e.2

number_more : (given : List ImportName) (t y : ImportName) (v : ℕ) → (v ≡ 0 → y ≢ t) → IsNumberOf given y v → IsNumberOf (given ++ t ∷ []) y v
number_more given t y v differ (inl h) = inl (h.0, λ c. elim (Contains-push_cases given t y c) [ inl before ↦ h.1 before | inr here ↦ differ h.0 (sym here) ])
number_more given t y v differ (inr h) = inr (h.0, h.1, Contains-append_left given (t ∷ []) y h.2, λ k a b. Contains-append_left given (t ∷ []) (numbered y k) (h.3 k a b))

-- no import has a name whose number is 0; an import has one of any other number
not_given_at : (known given : List ImportName) (numbers : List ℕ) → Each known given numbers → (p : ℕ) (x : ImportName) → slice_get known p ≡ Some x → slice_get numbers p ≡ Some 0 → ¬ Contains given x
not_given_at known given numbers each p x at is =
    elim (number_at known given numbers each p x 0 at is) [ inl h ↦ h.1 | inr h ↦ absurd (omega (arith, h.0)) ]

pub taken_given : (known given : List ImportName) (numbers : List ℕ) → AreNumbers known given numbers → (x : ImportName) → IsTaken known numbers x → Contains given x
taken_given known given numbers are x t =
    elim (number_at known given numbers are.each t.position x t.number t.at t.number_is) [ inl h ↦ absurd (t.some h.0) | inr h ↦ h.2 ]

module _ (known given : List ImportName) (once : (p q : ℕ) (x : ImportName) → slice_get known p ≡ Some x → slice_get known q ≡ Some x → p ≡ q) where
  -- a name that is not known, or one at a position of number 0, is given
  each_more : (numbers : List ℕ) (t : ImportName) → Each known given numbers → (¬ Contains known t) → Each known (given ++ t ∷ []) numbers
  each_more numbers t each absent p x at =
      let e = each p x at in
      (e.0, e.1, number_more given t x e.0 (λ none same. absent (subst (λ (y : ImportName). Contains known y) same (contains_at known p x at))) e.2)

  each_put : (numbers : List ℕ) (position : ℕ) (t : ImportName) → Each known given numbers → slice_get known position ≡ Some t → slice_get numbers position ≡ Some 0 → Each known (given ++ t ∷ []) (set numbers position 2)
  each_put numbers position t each here none p x at =
      elim (cases_eq position p) [
        | inl same ↦
            let is : t ≡ x = same_some (slice_get known p) t x (subst (λ (i : ℕ). slice_get known i ≡ Some t) same here) at in (
              2,
              subst (λ (i : ℕ). slice_get (set numbers position 2) i ≡ Some 2) same (slice_get_set numbers position 2 (slice_get_within numbers position 0 none)),
              inr (omega arith, omega arith, subst (λ (y : ImportName). Contains (given ++ t ∷ []) y) is (Contains-push given t), λ k a b. absurd (omega (arith, a, b))),
            )
        | inr other ↦
            let e = each p x at in (
              e.0,
              slice_get_set_other numbers position p 2 other ∙ e.1,
              number_more given t x e.0 (λ _ is. other (once position p t here (at ∙ ap Some is))) e.2,
            )
      ]

  -- the number of a name becomes another, with each smaller one of which the name is given
  each_raise : (numbers : List ℕ) (position : ℕ) (s : ImportName) (from next : ℕ) → Each known given numbers → slice_get known position ≡ Some s → slice_get numbers position ≡ Some from → from ≢ 0 → from ≤ next → next < 2 ^ 64
      → ((k : ℕ) → from ≤ k → k < next → Contains given (numbered s k)) → Each known given (set numbers position next)
  each_raise numbers position s from next each here is some more small tried p x at =
      elim (cases_eq position p) [
        | inl same ↦
            let name : s ≡ x = same_some (slice_get known p) s x (subst (λ (i : ℕ). slice_get known i ≡ Some s) same here) at in (
              next,
              subst (λ (i : ℕ). slice_get (set numbers position next) i ≡ Some next) same (slice_get_set numbers position next (slice_get_within numbers position from is)),
              subst (λ (y : ImportName). IsNumberOf given y next) name (raised (number_at known given numbers each position s from here is)),
            )
        | inr other ↦ let e = each p x at in (e.0, slice_get_set_other numbers position p next other ∙ e.1, e.2)
      ]
    where
      raised : IsNumberOf given s from → IsNumberOf given s next
      raised (inl h) = absurd (some h.0)
      raised (inr h) = inr (
        omega (arith, h.0, more),
        small,
        h.2,
        λ k a b. elim (cases_order k from) [
          | inl same ↦ tried k (omega (arith, same)) b
          | inr distinct ↦ elim distinct [ inl less ↦ h.3 k a less | inr above ↦ tried k (omega (arith, above)) b ]
        ],
      )

  made_set : (numbers : List ℕ) (position v next : ℕ) → Made known given numbers → slice_get numbers position ≡ Some v → v ≤ next → next < 2 ^ 64 → Made known given (set numbers position next)
  made_set numbers position v next made is more small x c = elim (made x c) [ inl there ↦ inl there | inr m ↦ inr (made_after x m) ]
    where
      made_after : (x : ImportName) → IsMade known numbers x → IsMade known (set numbers position next) x
      made_after x m =
          elim (cases_eq position m.position) [
            | inl same ↦
                let now : v ≡ m.next = same_some (slice_get numbers position) v m.next is (subst (λ (i : ℕ). slice_get numbers i ≡ Some m.next) (sym same) m.next_is) in
                record {
                  position = m.position;
                  original = m.original;
                  next = next;
                  number = m.number;
                  at = m.at;
                  next_is = subst (λ (i : ℕ). slice_get (set numbers position next) i ≡ Some next) same (slice_get_set numbers position next (slice_get_within numbers position v is));
                  below = omega (arith, m.below, now, more);
                  small = small;
                  is = m.is;
                }
            | inr other ↦ record {
              position = m.position;
              original = m.original;
              next = m.next;
              number = m.number;
              at = m.at;
              next_is = slice_get_set_other numbers position m.position next other ∙ m.next_is;
              below = m.below;
              small = m.small;
              is = m.is;
            }
          ]

made_push : (known given : List ImportName) (numbers : List ℕ) (t : ImportName) → Made known given numbers → Contains known t ⊎ IsMade known numbers t → Made known (given ++ t ∷ []) numbers
made_push known given numbers t made new x c =
    elim (Contains-push_cases given t x c) [
      | inl before ↦ made x before
      | inr here ↦ subst (λ (y : ImportName). Contains known y ⊎ IsMade known numbers y) here new
    ]

abbrev pub Differs : ImportName → Option (List ℕ) → Type 0
Differs x None = Unit {0}
Differs x (Some name) = bytes_eq x.name name ≡ false

pub record IsNamed (known given : List ImportName) (new : List ℕ) (x : ImportName) (o : Option (List ℕ)) : Type 0 where
  pub named : NamesOne given x (given_name x o)
  pub differs : Differs x o
  pub are : AreNumbers known (given ++ given_name x o ∷ []) new

module _ (known given : List ImportName) (once : (p q : ℕ) (x : ImportName) → slice_get known p ≡ Some x → slice_get known q ≡ Some x → p ≡ q)
    (old new : List ℕ) (position : ℕ) (x : ImportName) (are : AreNumbers known given old) (here : slice_get known position ≡ Some x) where
  keeps : Gives known old new position None → IsNamed known given new x None
  keeps h = record {
    named = (refl, inl (not_given_at known given old are.each position x here h.0, refl));
    differs = tt;
    are = subst (λ (ns : List ℕ). AreNumbers known (given ++ x ∷ []) ns) (sym h.1) (record {
      each = each_put known given once old position x are.each here h.0;
      made = made_push known given (set old position 2) x (made_set known given once old position 0 2 are.made h.0 (omega arith) (omega arith)) (inl (contains_at known position x here));
    });
  }

  module _ (name : List ℕ) (some : slice_get old position ≢ Some 0) (g : GivesNumber known old new position name) where
    original_is : g.original ≡ x
    original_is = same_some (slice_get known position) g.original x g.at here

    abbrev t : ImportName
    t = numbered x g.number

    t_is : numbered g.original g.number ≡ t
    t_is = ap (λ (y : ImportName). numbered y g.number) original_is

    from_some : g.from ≢ 0
    from_some e = some (g.from_is ∙ ap Some e)

    takes : TakesFree known old g.between t
    takes = subst (λ (y : ImportName). TakesFree known old g.between y) t_is g.takes

    tried : (k : ℕ) → g.from ≤ k → k < g.number → Contains given (numbered x k)
    tried k a b = taken_given known given old are (numbered x k) (subst (λ (y : ImportName). IsTaken known old (numbered y k)) original_is (g.tried k a b))

    before : IsNumberOf given x g.from
    before = number_at known given old are.each position x g.from here g.from_is

    taken : Contains given x
    taken = elim before [ inl h ↦ absurd (from_some h.0) | inr h ↦ h.2 ]

    from_two : 2 ≤ g.number
    from_two = elim before [ inl h ↦ absurd (from_some h.0) | inr h ↦ omega (arith, h.0, g.not_below) ]

    below : (k : ℕ) → 2 ≤ k → k < g.number → Contains given (numbered x k)
    below k a b =
        elim before [
          | inl h ↦ absurd (from_some h.0)
          | inr h ↦ elim (cases_order k g.from) [
            | inl same ↦ tried k (omega (arith, same)) b
            | inr distinct ↦ elim distinct [ inl less ↦ h.3 k a less | inr above ↦ tried k (omega (arith, above)) b ]
          ]
        ]

    -- a name that is not known is made of this one alone, with a smaller number
    not_made : IsMade known old t → ⊥
    not_made m =
        let modules : x.module_name ≡ m.original.module_name = ap (λ (n : ImportName). n.module_name) m.is in
        let names = unnumbered x.name m.original.name g.number m.number (omega (arith, g.small)) (omega (arith, m.below, m.small)) (ap (λ (n : ImportName). n.name) m.is) in
        let same : m.original ≡ x = ap (λ (q : List ℕ). record { module_name = m.original.module_name; name = q }) (sym names.0) ∙ ap (λ (q : List ℕ). record { module_name = q; name = x.name }) (sym modules) in
        let at : m.position ≡ position = once m.position position x (m.at ∙ ap Some same) here in
        let next : m.next ≡ g.from = same_some (slice_get old position) m.next g.from (subst (λ (i : ℕ). slice_get old i ≡ Some m.next) at m.next_is) g.from_is in
        absurd (omega (arith, next, names.1, m.below, g.not_below))

    free : ¬ Contains given t
    free = elim takes [
      | inl h ↦ λ c. elim (are.made t c) [ inl there ↦ h.0 there | inr m ↦ not_made m ]
      | inr h ↦ not_given_at known given old are.each h.0 t h.1 h.2
    ]

    all_below : (k : ℕ) → g.from ≤ k → k < g.number + 1 → Contains (given ++ t ∷ []) (numbered x k)
    all_below k a b =
        elim (cases_eq k g.number) [
          | inl same ↦ subst (λ (i : ℕ). Contains (given ++ t ∷ []) (numbered x i)) (sym same) (Contains-push given t)
          | inr other ↦ Contains-append_left given (t ∷ []) (numbered x k) (tried k a (omega (arith, b, other)))
        ]

    stored : AreNumbers known (given ++ t ∷ []) (set g.between position (g.number + 1))
    stored = elim takes [
      | inl h ↦
          let from_is : slice_get g.between position ≡ Some g.from = ap (λ (ns : List ℕ). slice_get ns position) h.1 ∙ g.from_is in
          let each : Each known given g.between = subst (λ (ns : List ℕ). Each known given ns) (sym h.1) are.each in
          let made : Made known given g.between = subst (λ (ns : List ℕ). Made known given ns) (sym h.1) are.made in
          record {
            each = each_raise known (given ++ t ∷ []) once g.between position x g.from (g.number + 1) (each_more known given once g.between t each h.0) here from_is from_some (omega (arith, g.not_below)) g.small all_below;
            made = made_push known given (set g.between position (g.number + 1)) t (made_set known given once g.between position g.from (g.number + 1) made from_is (omega (arith, g.not_below)) g.small) (inr (record {
              position = position;
              original = x;
              next = g.number + 1;
              number = g.number;
              at = here;
              next_is = slice_get_set g.between position (g.number + 1) (slice_get_within g.between position g.from from_is);
              below = omega arith;
              small = g.small;
              is = refl;
            }));
          }
      | inr h ↦
          let apart : h.0 ≢ position = λ e. some (subst (λ (i : ℕ). slice_get old i ≡ Some 0) e h.2) in
          let from_is : slice_get g.between position ≡ Some g.from = ap (λ (ns : List ℕ). slice_get ns position) h.3 ∙ slice_get_set_other old h.0 position 2 apart ∙ g.from_is in
          let each : Each known (given ++ t ∷ []) g.between = subst (λ (ns : List ℕ). Each known (given ++ t ∷ []) ns) (sym h.3) (each_put known given once old h.0 t are.each h.1 h.2) in
          let made : Made known given g.between = subst (λ (ns : List ℕ). Made known given ns) (sym h.3) (made_set known given once old h.0 0 2 are.made h.2 (omega arith) (omega arith)) in
          record {
            each = each_raise known (given ++ t ∷ []) once g.between position x g.from (g.number + 1) each here from_is from_some (omega (arith, g.not_below)) g.small all_below;
            made = made_push known given (set g.between position (g.number + 1)) t (made_set known given once g.between position g.from (g.number + 1) made from_is (omega (arith, g.not_below)) g.small) (inl (contains_at known h.0 t h.1));
          }
    ]

    gets : IsNamed known given new x (Some name)
    gets =
        let spelled : name ≡ name_with_number x.name g.number = g.spelled ∙ ap (λ (y : ImportName). name_with_number y.name g.number) original_is in
        let is : t ≡ given_name x (Some name) = ap (λ (q : List ℕ). record { module_name = x.module_name; name = q }) (sym spelled) in
        record {
          named = (refl, inr (taken, record { number = g.number; from_two = from_two; spelled = spelled; free = subst (λ (y : ImportName). ¬ Contains given y) is free; least = below }));
          differs = rw spelled (bytes_eq-name_with_number x.name g.number);
          are = subst (λ (y : ImportName). AreNumbers known (given ++ y ∷ []) new) is (subst (λ (ns : List ℕ). AreNumbers known (given ++ t ∷ []) ns) (sym g.stored) stored);
        }

  pub given_next : (o : Option (List ℕ)) → Gives known old new position o → IsNamed known given new x o
  given_next None h = keeps h
  given_next (Some name) h = gets name h.0 h.1

some_at : {X : Type 0} (xs : List X) (p : ℕ) → p < length xs → (x : X) × (slice_get xs p ≡ Some x)
some_at [] p h = absurd (omega (arith, h))
some_at (x ∷ xs) zero h = (x, refl)
some_at (x ∷ xs) (suc p) h = some_at xs p (omega (arith, h))

-- there is a number for each name
pub number_within : (known given : List ImportName) (numbers : List ℕ) → AreNumbers known given numbers → (p : ℕ) → p < length known → p < length numbers
number_within known given numbers are p h =
    let x = some_at known p h in
    let v = are.each p x.0 x.1 in
    slice_get_within numbers p v.0 v.1

pub numbers_wide : (known given : List ImportName) (numbers : List ℕ) → AreNumbers known given numbers → length known ≤ length numbers
numbers_wide known given numbers are = by (length known) refl
  where
    by : (n : ℕ) → length known ≡ n → length known ≤ length numbers
    by zero e = omega (arith, e)
    by (suc n) e = omega (arith, e, number_within known given numbers are n (omega (arith, e)))

pub takes_from : (known : List ImportName) (old now new : List ℕ) (x y : ImportName) → now ≡ old → x ≡ y → TakesFree known now new x → TakesFree known old new y
takes_from known old now new x y same is t = subst (λ (ns : List ℕ). TakesFree known ns new y) same (subst (λ (z : ImportName). TakesFree known now new z) is t)

-- some number below the limit is free
pub no_number_left : (known given : List ImportName) (numbers : List ℕ) (position : ℕ) (x : ImportName) (from count : ℕ) → AreNumbers known given numbers → slice_get known position ≡ Some x → slice_get numbers position ≡ Some from → from ≢ 0
    → length given ≡ count → count < 2 ^ 63 → ((k : ℕ) → from ≤ k → k < count + 3 → IsTaken known numbers (numbered x k)) → ⊥
no_number_left known given numbers position x from count are here is some long small tried =
    some_number_free given x count long (omega (arith, small)) (λ k a b. elim (number_at known given numbers are.each position x from here is) [
      | inl h ↦ absurd (some h.0)
      | inr h ↦ elim (cases_order k from) [
        | inl same ↦ taken_given known given numbers are (numbered x k) (tried k (omega (arith, same)) b)
        | inr distinct ↦ elim distinct [ inl less ↦ h.3 k a less | inr above ↦ taken_given known given numbers are (numbered x k) (tried k (omega (arith, above)) b) ]
      ]
    ])
