-- Searches for the first that holds.
use Rattle.std.proofs.Common.{◌≡◌, List, [], ◌∷◌, ◌++◌, inl, inr}
use Rattle.wc_names.specs.First.{FirstOf}

-- the first of all is the first of the rest
pub record IsFirstInRest {K O : Type 0} (H : K → O → Type 0) (all rest : List K) : Type 0 where
  pub from_rest : (o : O) → FirstOf H rest o → FirstOf H all o
  pub to_rest : (o : O) → FirstOf H all o → FirstOf H rest o

-- the rest after a kind that holds of nothing
pub rest_after : {K O : Type 0} (H : K → O → Type 0) (all rest : List K) (k : K) → IsFirstInRest H all (k ∷ rest) → ((o : O) → ¬ H k o)
    → IsFirstInRest H all rest
rest_after {K} {O} H all rest k l none = record {
  from_rest = λ o f. l.from_rest o (inr (none, f));
  to_rest = λ o f. past o (l.to_rest o f);
} where
  past : (o : O) → FirstOf H (k ∷ rest) o → FirstOf H rest o
  past o (inl h) = absurd (none o h)
  past o (inr h) = h.1

pub first_found : {K O : Type 0} (H : K → O → Type 0) (all rest : List K) (k : K) (o : O) → IsFirstInRest H all (k ∷ rest) → H k o → FirstOf H all o
first_found H all rest k o l h = l.from_rest o (inl h)

pub none_found : {K O : Type 0} (H : K → O → Type 0) (all : List K) → IsFirstInRest H all [] → (o : O) → ¬ FirstOf H all o
none_found H all l o f = l.to_rest o f

-- no kind of the list holds of anything
abbrev pub NoneOf : {K O : Type 0} → (K → O → Type 0) → List K → Type 0
NoneOf Holds [] = Unit {0}
NoneOf {K} {O} Holds (k ∷ ks) = ((o : O) → ¬ Holds k o) × NoneOf Holds ks

pub not_first : {K O : Type 0} (H : K → O → Type 0) (ks : List K) (o : O) → NoneOf H ks → ¬ FirstOf H ks o
not_first H [] o none f = f
not_first H (k ∷ ks) o none (inl h) = none.0 o h
not_first H (k ∷ ks) o none (inr h) = not_first H ks o none.1 h.1

pub none_of : {K O : Type 0} (H : K → O → Type 0) (ks : List K) → ((o : O) → ¬ FirstOf H ks o) → NoneOf H ks
none_of H [] none = tt
none_of H (k ∷ ks) none = (λ o h. none o (inl h), none_of H ks (λ o f. none o (inr (λ p h. none p (inl h), f))))

-- one list of kinds after another
pub first_append : {K O : Type 0} (H : K → O → Type 0) (xs ys : List K) (o : O) → FirstOf H xs o → FirstOf H (xs ++ ys) o
first_append H [] ys o f = absurd f
first_append H (x ∷ xs) ys o (inl h) = inl h
first_append H (x ∷ xs) ys o (inr h) = inr (h.0, first_append H xs ys o h.1)

pub first_after : {K O : Type 0} (H : K → O → Type 0) (xs ys : List K) (o : O) → NoneOf H xs → FirstOf H ys o → FirstOf H (xs ++ ys) o
first_after H [] ys o none f = f
first_after H (x ∷ xs) ys o none f = inr (none.0, first_after H xs ys o none.1 f)

-- where no kind of the one list holds, the first of both is the first of the other
pub first_of_after : {K O : Type 0} (H : K → O → Type 0) (xs ys : List K) (o : O) → NoneOf H xs → FirstOf H (xs ++ ys) o → FirstOf H ys o
first_of_after H [] ys o none f = f
first_of_after H (x ∷ xs) ys o none (inl h) = absurd (none.0 o h)
first_of_after H (x ∷ xs) ys o none (inr h) = first_of_after H xs ys o none.1 h.1

-- where each kind holds of one thing at most, the first is one
pub first_unique : {K O : Type 0} (H : K → O → Type 0) → ((k : K) (o p : O) → H k o → H k p → o ≡ p) → (ks : List K) (o p : O) → FirstOf H ks o → FirstOf H ks p
    → o ≡ p
first_unique H one [] o p f g = absurd f
first_unique H one (k ∷ ks) o p (inl h) (inl i) = one k o p h i
first_unique H one (k ∷ ks) o p (inl h) (inr i) = absurd (i.0 o h)
first_unique H one (k ∷ ks) o p (inr h) (inl i) = absurd (h.0 p i)
first_unique H one (k ∷ ks) o p (inr h) (inr i) = first_unique H one ks o p h.1 i.1

-- the first is of some kind
pub first_kind : {K O : Type 0} (H : K → O → Type 0) (ks : List K) (o : O) → FirstOf H ks o → (k : K) × H k o
first_kind H [] o f = absurd f
first_kind H (k ∷ ks) o (inl h) = (k, h)
first_kind H (k ∷ ks) o (inr h) = first_kind H ks o h.1

-- what one relation has the other has too, and each kind that the other holds of something the one holds of something
pub first_carried : {K O : Type 0} (H G : K → O → Type 0) (ks : List K) (o : O) → ((k : K) → H k o → G k o) → ((k : K) (p : O) → G k p → (q : O) × H k q)
    → FirstOf H ks o → FirstOf G ks o
first_carried H G [] o here there f = f
first_carried H G (k ∷ ks) o here there (inl h) = inl (here k h)
first_carried H G (k ∷ ks) o here there (inr h) = inr ((λ p g. let q = there k p g in h.0 q.0 q.1), first_carried H G ks o here there h.1)
