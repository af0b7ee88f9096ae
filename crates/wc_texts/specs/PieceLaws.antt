-- Texts that were put one after the other are one text that was put.
use Rattle.std.proofs.Common.{◌≡◌, ℕ, Bool, List, [], ◌∷◌, ◌++◌, Option, Some, None, refl, ap, sym, subst, ◌∙◌, append_assoc}
use Rattle.std.specs.Fmt.{HasWritten, IsPlainFormatter}
use Rattle.std.specs.Io.KnownBytes.{Appends}
use Rattle.std.specs.List.{FoldsTo, concat}
use Rattle.std.specs.declared.fmt.Formatter.{Formatter}
use Rattle.wc_texts.specs.Puts.{IsPutTo}

-- to a sink

appends_twice : (a b c : Option (List ℕ)) (s t : List ℕ) → Appends a b s → Appends b c t → Appends a c (s ++ t)
appends_twice None b c s t p q = tt
appends_twice (Some xs) None c s t p q = absurd p
appends_twice (Some xs) (Some ys) None s t p q = absurd q
appends_twice (Some xs) (Some ys) (Some zs) s t p q = q ∙ ap (λ (l : List ℕ). l ++ t) p ∙ append_assoc xs s t

pub put_twice : {S : Type 0} (written : S → Option (List ℕ)) (is_failed : S → Bool) (a b c : S) (s t : List ℕ)
    → IsPutTo written is_failed a s b → IsPutTo written is_failed b t c → IsPutTo written is_failed a (s ++ t) c
put_twice written is_failed a b c s t p q = (appends_twice (written a) (written b) (written c) s t p.0 q.0, p.1, q.2)

-- to a formatter

concat_twice : (xs ys : List (List ℕ)) → concat (xs ++ ys) ≡ concat xs ++ concat ys
concat_twice [] ys = refl
concat_twice (x ∷ xs) ys = ap (λ (l : List ℕ). x ++ l) (concat_twice xs ys) ∙ sym (append_assoc x (concat xs) (concat ys))

calls_twice : {W : Type 0} (took : W → List ℕ → W → Type 0) (a : W) (xs : List (List ℕ)) (b : W) (ys : List (List ℕ)) (c : W)
    → FoldsTo took a xs b → FoldsTo took b ys c → FoldsTo took a (xs ++ ys) c
calls_twice took a [] b ys c p q = subst (λ x. FoldsTo took x ys c) (sym p) q
calls_twice took a (x ∷ xs) b ys c p q = (p.0, p.1, calls_twice took p.0 xs b ys c p.2 q)

pub written_twice : {W : Type 0} (took : W → List ℕ → W → Type 0) (a b c : Formatter W) (s t : List ℕ)
    → (IsPlainFormatter a → HasWritten took a s b) → (IsPlainFormatter b → HasWritten took b t c)
    → IsPlainFormatter a → HasWritten took a (s ++ t) c
written_twice took a b c s t p q plain =
    let first = p plain in
    let second = q first.plain in
    record {
      wrote = record {
        parts = first.wrote.parts ++ second.wrote.parts;
        calls = calls_twice took a.writer first.wrote.parts b.writer second.wrote.parts c.writer first.wrote.calls second.wrote.calls;
        whole = concat_twice first.wrote.parts second.wrote.parts ∙ ap (λ (l : List ℕ). l ++ concat second.wrote.parts) first.wrote.whole
            ∙ ap (λ (l : List ℕ). s ++ l) second.wrote.whole;
      };
      plain = second.plain;
    }
