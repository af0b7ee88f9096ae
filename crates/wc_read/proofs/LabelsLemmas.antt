-- The labels of a `br_table`, where no fewer bytes spell them.
use Rattle.std.proofs.Common.{◌≡◌, ℕ, suc, ◌+◌, ◌-◌, ◌<◌, ◌≤◌, List, [], ◌∷◌, ◌++◌, length, drop, Option, Some, refl, sym, ◌∙◌, ap, arith, append_assoc, append-nil}
use Rattle.std.specs.List.{flat_map}
use Rattle.std.proofs.lemmas.List.{length-append}
use Rattle.std.proofs.Math.Seq.{drop-append_seam}
use Rattle.wc_read.specs.Text.{number_text}
use Rattle.wc_read.specs.Operators.{WithLabels}
use Rattle.wc_read.specs.OperatorText.{immediates_text}
use Rattle.wc_read.specs.Reading.Reader.{Read, items_at, number_at, vector_at}
use Rattle.wc_read.specs.Reading.Instructions.{immediates_at}
use Rattle.wc_read.specs.Private.TextSizes.{IsTextSize, AreNumbers, IsLabelsSize}
use Rattle.wc_read.specs.declared.operators.Form.TheVariants.{Labels as form_labels}
use Rattle.wc_read.proofs.OptionsLemmas.{bind_some, some_pair}
use Rattle.wc_read.proofs.CountedLemmas.{IsPartRead, part_of_items, part_more, part_end}

-- the loop that goes past them

pub record ArePassed (input : List ℕ) (count done : ℕ) (rest : List ℕ) : Type 0 where
  pub numbers : List ℕ
  pub part : IsPartRead (number_at 32) numbers (count - done) rest (items_at (number_at 32) count input)
  pub cut : input ≡ flat_map number_text numbers ++ rest
  pub many : length numbers ≡ done

pub none_passed : (input : List ℕ) (count : ℕ) → ArePassed input count 0 input
none_passed input count = record {
  numbers = [];
  part = (let all : count - 0 ≡ count = omega arith in rw all (part_of_items (number_at 32) input count));
  cut = refl;
  many = refl;
}

push_number : (ns : List ℕ) (n : ℕ) (left : List ℕ) → flat_map number_text ns ++ (number_text n ++ left) ≡ flat_map number_text (ns ++ n ∷ []) ++ left
push_number [] n left = ap (λ (z : List ℕ). z ++ left) (sym (append-nil (number_text n)))
push_number (x ∷ ns) n left =
    append_assoc (number_text x) (flat_map number_text ns) (number_text n ++ left)
    ∙ (ap (λ (z : List ℕ). number_text x ++ z) (push_number ns n left) ∙ sym (append_assoc (number_text x) (flat_map number_text (ns ++ n ∷ [])) left))

-- the bytes after a text
after_is : {A : Type 0} (read : Read A) (text : A → List ℕ) (rest : List ℕ) (size : ℕ) (after : List ℕ) (s : IsTextSize read text rest size) → after ≡ drop size rest → after ≡ s.left
after_is read text rest size after s e = e ∙ (ap (λ (n : ℕ). drop n rest) s.size_is ∙ (ap (λ (z : List ℕ). drop (length (text s.value)) z) s.cut ∙ drop-append_seam (text s.value) s.left))

pub text_within : {A : Type 0} (read : Read A) (text : A → List ℕ) (bytes : List ℕ) (size : ℕ) → IsTextSize read text bytes size → size ≤ length bytes
text_within read text bytes size s =
    let parts : length bytes ≡ length (text s.value) + length s.left = ap length s.cut ∙ length-append (text s.value) s.left in
    let e = s.size_is in omega arith

pub one_passed : (input : List ℕ) (count done : ℕ) (rest : List ℕ) (size : ℕ) (after : List ℕ) → ArePassed input count done rest → done < count → IsTextSize (number_at 32) number_text rest size → after ≡ drop size rest → ArePassed input count (done + 1) after
one_passed input count done rest size after p below s e =
    let left : count - done ≡ suc (count - (done + 1)) = omega arith in
    let next : after ≡ s.left = after_is (number_at 32) number_text rest size after s e in
    rw next record {
      numbers = p.numbers ++ s.value ∷ [];
      part = part_more (number_at 32) p.numbers (count - (done + 1)) rest (items_at (number_at 32) count input) s.value s.left (rw left at p.part) s.read_is;
      cut = p.cut ∙ (ap (λ (z : List ℕ). flat_map number_text p.numbers ++ z) s.cut ∙ push_number p.numbers s.value s.left);
      many = length-append p.numbers (s.value ∷ []) ∙ ap (λ (n : ℕ). n + 1) p.many;
    }

pub all_passed : (input : List ℕ) (count done : ℕ) (rest : List ℕ) → ArePassed input count done rest → count ≡ done → AreNumbers count input rest
all_passed input count done rest p e =
    let none : count - done ≡ 0 = omega arith in
    record {
      numbers = p.numbers;
      read_is = part_end (number_at 32) p.numbers rest (items_at (number_at 32) count input) (rw none at p.part);
      cut = p.cut;
      count_is = e ∙ sym p.many;
    }

-- the labels, and the one after them

pub numbers_within : (count : ℕ) (bytes left : List ℕ) → AreNumbers count bytes left → length left ≤ length bytes
numbers_within count bytes left a = let parts : length bytes ≡ length (flat_map number_text a.numbers) + length left = ap length a.cut ∙ length-append (flat_map number_text a.numbers) left in omega arith

regroup : (a b c d : List ℕ) → a ++ (b ++ (c ++ d)) ≡ ((a ++ b) ++ c) ++ d
regroup a b c d = sym (append_assoc a b (c ++ d)) ∙ sym (append_assoc (a ++ b) c d)

sizes : (input a b last d : List ℕ) (more : ℕ) → input ≡ a ++ (b ++ last) → more ≡ length d → length input - length last + more ≡ length ((a ++ b) ++ d)
sizes input a b last d more front e =
    let parts : length input ≡ length a + (length b + length last) = ap length front ∙ (length-append a (b ++ last) ∙ ap (λ (n : ℕ). length a + n) (length-append b last)) in
    omega (arith, e, length-append (a ++ b) d, length-append a b)

pub labels_sized : (input : List ℕ) (size n : ℕ) (rest last : List ℕ) (more : ℕ) → IsTextSize (number_at 32) number_text input size → number_at 32 input ≡ Some (n, rest) → AreNumbers n rest last → IsTextSize (number_at 32) number_text last more
    → IsLabelsSize input (length input - length last + more)
unfolding immediates_at immediates_text vector_at
labels_sized input size n rest last more s e a d =
    let p = some_pair s.value n s.left rest (sym s.read_is ∙ e) in
    let front : input ≡ number_text (length a.numbers) ++ (flat_map number_text a.numbers ++ last) =
    s.cut ∙ (ap (λ (k : ℕ). number_text k ++ s.left) (p.0 ∙ a.count_is) ∙ ap (λ (z : List ℕ). number_text (length a.numbers) ++ z) (p.1 ∙ a.cut)) in
    let vector : vector_at (number_at 32) input ≡ Some (a.numbers, last) = bind_some (number_at 32 input) _ (n, rest) e ∙ a.read_is in
    record {
      labels = a.numbers;
      others = d.value;
      left = d.left;
      read_is = bind_some (vector_at (number_at 32) input) _ (a.numbers, last) vector ∙ bind_some (number_at 32 last) _ (d.value, d.left) d.read_is;
      cut = front ∙ (ap (λ (z : List ℕ). number_text (length a.numbers) ++ (flat_map number_text a.numbers ++ z)) d.cut ∙ regroup (number_text (length a.numbers)) (flat_map number_text a.numbers) (number_text d.value) d.left);
      size_is = sizes input (number_text (length a.numbers)) (flat_map number_text a.numbers) last (number_text d.value) more front d.size_is;
    }
