use Rattle.std.proofs.Common.{◌≡◌, ◌+◌, ◌++◌, ◌∙◌, ℕ, List, ap, append-nil, append_assoc, arith, rules, string_bytes, suc, sym, zero}
use Rattle.std.specs.List.{flat_map, range_with_len}
use Rattle.wc_json.specs.Document.{document_view}
use Rattle.wc_selection.specs.Worlds.{world_name}
use Rattle.wc_options.specs.Listing.{listed_name}
use Rattle.wcplan_inputs.proofs.listing.listed_worlds.Goals as goal

next_listed : (f : ℕ → List ℕ) (a n : ℕ) → flat_map f (range_with_len a (suc n)) ≡ flat_map f (range_with_len a n) ++ f (a + n)
next_listed f a zero = let same : a ≡ a + 0 = omega arith in append-nil (f a) ∙ ap f same
next_listed f a (suc n) =
    let same : (a + 1) + n ≡ a + suc n = omega arith in
    ap (λ l. f a ++ l) (next_listed f (a + 1) n) ∙ sym (append_assoc (f a) _ _) ∙ ap (λ k. flat_map f (range_with_len a (suc n)) ++ f k) same

listed_next : (f : ℕ → List ℕ) (n : ℕ) (text new : List ℕ) → new ≡ text ++ f n → text ≡ flat_map f (range_with_len 0 n) → new ≡ flat_map f (range_with_len 0 (n + 1))
listed_next f n text new put made =
    let more : n + 1 ≡ suc n = omega arith in
    let same : 0 + n ≡ n = omega arith in
    put ∙ ap (λ l. l ++ f n) made ∙ ap (λ k. flat_map f (range_with_len 0 n) ++ f k) (sym same) ∙ sym (next_listed f 0 n) ∙ ap (λ k. flat_map f (range_with_len 0 k)) (sym more)

pub loop-index-preserved : goal.loop-index-preserved
loop-index-preserved c =
    listed_next (λ index. listed_name (world_name (document_view c.args.document.now) index)) c.loop-index.index (string_bytes c.loop-index.text) _ (search rules) c.loop-index.invariant
