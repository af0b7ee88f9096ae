-- What is true of each element of a list, and of each element's view.
use Rattle.std.proofs.Common.{◌≡◌, ℕ, ◌<◌, ◌+◌, ◌↔◌, Bool, true, false, IsTrue, List, [], ◌∷◌, map, length, take, get_or, Result, Ok, Err, sym, subst, ◌∙◌, arith}
use Rattle.std.specs.Prelude.{IfOk}
use Rattle.std.specs.List.{All}
use Rattle.std.proofs.lemmas.List.{map_more}
use Rattle.std.proofs.lemmas.List.Elements.{All-map, All-cons, All-head, All-tail, All-push}

pub all_unviewed : {X Y : Type 0} (f : X → Y) (P : Y → Type 0) (xs : List X) → All P (map f xs) → All (λ x. P (f x)) xs
all_unviewed f P [] h = λ k d small. absurd (let e : ⊥ = omega (arith, small) in e)
all_unviewed f P (x ∷ xs) h = All-cons (λ x. P (f x)) x xs (All-head P (f x) (map f xs) h) (all_unviewed f P xs (All-tail P (f x) (map f xs) h))

pub viewed : {X Y : Type 0} (f : X → Y) (P : Y → Type 0) (xs : List X) (b : Bool) → IsTrue b ↔ All (λ x. P (f x)) xs → IsTrue b ↔ All P (map f xs)
viewed f P xs b h = ((λ t. All-map P f xs (h.0 t)), (λ all. h.1 (all_unviewed f P xs all)))

-- a loop that has come one element further
pub all_more : {X Y : Type 0} (f : X → Y) (P : Y → Type 0) (xs : List X) (i : ℕ) (d : X) (b : Bool) → i < length xs → All P (map f (take i xs))
    → IsTrue b ↔ P (f (get_or xs i d)) → b ≡ true → All P (map f (take (i + 1) xs))
all_more f P xs i d b small h test pass = rw (map_more f xs i d small) (All-push P (map f (take i xs)) (f (get_or xs i d)) h (test.0 pass))

-- a loop that has found an element that doesn't pass
pub not_all : {X Y : Type 0} (f : X → Y) (P : Y → Type 0) (xs : List X) (i : ℕ) (x : X) (b : Bool) → i < length xs → x ≡ get_or xs i x
    → IsTrue b ↔ P (f x) → b ≡ false → IsTrue false ↔ All P (map f xs)
not_all f P xs i x b small read test fail = (
  (λ t. absurd (let e : false ≡ true = t in let bad : ⊥ = cc e in bad)),
  (λ all. let holds : P (f (get_or xs i x)) = all_unviewed f P xs all i x small in
      let mine : P (f x) = subst (λ z. P (f z)) (sym read) holds in
      sym fail ∙ test.1 mine),
)

pub iff_trans : {A B C : Type 0} → A ↔ B → B ↔ C → A ↔ C
iff_trans f g = ((λ a. g.0 (f.0 a)), (λ c. f.1 (g.1 c)))

pub iff_ok : {E B C : Type 0} (r : Result Bool E) → B ↔ C → IfOk r (λ b. IsTrue b ↔ B) → IfOk r (λ b. IsTrue b ↔ C)
iff_ok (Ok b) g f = iff_trans f g
iff_ok (Err e) g f = tt
