-- Names whose keys have different numbers are different, and none is renamed.
use Rattle.std.proofs.Common.{◌≡◌, ℕ, zero, suc, ◌+◌, ◌-◌, ◌<◌, List, [], ◌∷◌, ◌++◌, length, get_or, replicate, Some, None, inl, inr, refl, sym, ap, subst, ◌∙◌, arith}
use Rattle.std.specs.Prelude.{slice_get}
use Rattle.std.specs.List.{Contains}
use Rattle.std.specs.Str.{bytes_eq}
use Rattle.std.proofs.lemmas.Bool.{cases_order}
use Rattle.std.proofs.lemmas.List.{get_or_default, length-replicate}
use Rattle.std.proofs.lemmas.List.Elements.{Contains-push_cases}
use Rattle.std.proofs.lemmas.Option.{slice_get-get_or, slice_get_within}
use Rattle.std.proofs.lemmas.Slice.Eq.{bytes_eq-Decides}
use Rattle.wc_dedupe.specs.Laws.{AreDistinct}
use Rattle.wc_dedupe.specs.Renaming.{ImportName, Renamed, renames_of, renamed_names, IsRenaming}
use Rattle.wc_dedupe.specs.Private.NameKeys.{NameKey, AreKeys, Rise, name_key}
use Rattle.wc_dedupe.proofs.DistinctLemmas.{Contains-here, Contains-later}

-- a key that is later has a larger number
rise_far : (keys : List NameKey) → Rise keys → (i n : ℕ) (d : NameKey) → i + suc n < length keys → (get_or keys i d).0 < (get_or keys (i + suc n) d).0
rise_far keys up i zero d h =
    let next : i + 1 ≡ i + suc zero = omega arith in
    subst (λ (j : ℕ). (get_or keys i d).0 < (get_or keys j d).0) next (up i d (omega (arith, h)))
rise_far keys up i (suc n) d h =
    let one = rise_far keys up i n d (omega (arith, h)) in
    let two = up (i + suc n) d (omega (arith, h)) in
    let next : i + suc n + 1 ≡ i + suc (suc n) = omega arith in
    subst (λ (j : ℕ). (get_or keys i d).0 < (get_or keys j d).0) next (omega (arith, one, two))

rise_between : (keys : List NameKey) → Rise keys → (i j : ℕ) (d : NameKey) → i < j → j < length keys → (get_or keys i d).0 < (get_or keys j d).0
rise_between keys up i j d less h =
    let at : i + suc (j - i - 1) ≡ j = omega (arith, less) in
    subst (λ (k : ℕ). (get_or keys i d).0 < (get_or keys k d).0) at (rise_far keys up i (j - i - 1) d (omega (arith, at, h)))

module _ (names : List ImportName) (n : ℕ) (keys : List NameKey) (long : n ≡ length names) (all : AreKeys names n keys) (up : Rise keys) where
  -- one name is at one index
  once : (i j : ℕ) (x : ImportName) → slice_get names i ≡ Some x → slice_get names j ≡ Some x → i ≡ j
  once i j x a b =
      let one = all.all i (omega (arith, long, slice_get_within names i x a)) in
      let two = all.all j (omega (arith, long, slice_get_within names j x b)) in
      let m : one.0.0 ≡ name_key x = number one.0 one.1 i one.2 a in
      let l : two.0.0 ≡ name_key x = number two.0 two.1 j two.2 b in
      elim (cases_order one.1.0 two.1.0) [
        | inl same ↦ sym one.2 ∙ ap (λ (e : NameKey). e.1) (sym one.1.2 ∙ get_or_default keys one.1.0 one.0 two.0 one.1.1 ∙ ap (λ (k : ℕ). get_or keys k two.0) same ∙ two.1.2) ∙ two.2
        | inr distinct ↦ elim distinct [
          | inl less ↦ absurd (below one.0 two.0 one.1 two.1 less m l)
          | inr more ↦ absurd (below two.0 one.0 two.1 one.1 more l m)
        ]
      ]
    where
      number : (e : NameKey) → Contains keys e → (k : ℕ) → e.1 ≡ k → slice_get names k ≡ Some x → e.0 ≡ name_key x
      number e c k at here =
          let of = all.of e c in
          let both : Some of.0 ≡ Some x = sym of.1 ∙ ap (λ (l : ℕ). slice_get names l) at ∙ here in
          let same : of.0 ≡ x = cc in
          of.2 ∙ ap name_key same

      below : (e f : NameKey) (c : Contains keys e) (d : Contains keys f) → c.0 < d.0 → e.0 ≡ name_key x → f.0 ≡ name_key x → ⊥
      below e f c d less p q =
          let rises = rise_between keys up c.0 d.0 e less d.1 in
          let first : (get_or keys c.0 e).0 ≡ e.0 = ap (λ (z : NameKey). z.0) c.2 in
          let second : (get_or keys d.0 e).0 ≡ f.0 = ap (λ (z : NameKey). z.0) (get_or_default keys d.0 e f d.1 ∙ d.2) in
          omega (arith, rises, first, second, p, q)

  pub names_differ : AreDistinct names
  names_differ = distinct names once
    where
      distinct : (ns : List ImportName) → ((i j : ℕ) (x : ImportName) → slice_get ns i ≡ Some x → slice_get ns j ≡ Some x → i ≡ j) → AreDistinct ns
      distinct [] one = tt
      distinct (n ∷ ns) one = (
        λ c. absurd (let same : zero ≡ suc c.0 = one zero (suc c.0) n refl (slice_get-get_or ns c.0 n c.1 ∙ ap Some c.2) in omega (arith, same)),
        distinct ns (λ i j x a b. let same : suc i ≡ suc j = one (suc i) (suc j) x a b in omega (arith, same)),
      )

-- different names are renamed to themselves

kept : (given ss : List ImportName) → AreDistinct ss → ((x : ImportName) → Contains ss x → Contains given x → ⊥) → Renamed given ss ss
kept given [] distinct new = refl
kept given (s ∷ ss) distinct new = (
  (refl, inl (new s (Contains-here s ss), refl)),
  kept (given ++ s ∷ []) ss distinct.1 (λ x there before. elim (Contains-push_cases given s x before) [
    | inl earlier ↦ new x (Contains-later s ss x there) earlier
    | inr here ↦ distinct.0 (subst (λ (y : ImportName). Contains ss y) (sym here) there)
  ]),
)

names_stay : (ss : List ImportName) → renamed_names [] ss (replicate (length ss) None) ≡ ss
names_stay [] = refl
names_stay (s ∷ ss) = ap (λ (ns : List ImportName). s ∷ ns) (names_stay ss)

no_renames : (ss : List ImportName) → renames_of ss ss ≡ []
no_renames [] = refl
no_renames (s ∷ ss) = rw ((bytes_eq-Decides s.name s.name).1 refl) (no_renames ss)

pub unrenamed : (names : List ImportName) (n : ℕ) → n ≡ length names → AreDistinct names → IsRenaming names (replicate n None) []
unrenamed names n long distinct =
    let same = names_stay names in
    subst (λ (k : ℕ). IsRenaming names (replicate k None) []) (sym long) (record {
      as_long = length-replicate (length names) None;
      renamed = subst (λ (ns : List ImportName). Renamed [] names ns) (sym same) (kept [] names distinct (λ x there before. absurd (omega (arith, before.1))));
      listed = sym (ap (λ (ns : List ImportName). renames_of names ns) same ∙ no_renames names);
    })
