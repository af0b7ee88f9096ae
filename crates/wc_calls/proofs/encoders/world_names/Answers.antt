use Rattle.std.proofs.Common.{◌≡◌, ◌+◌, ◌++◌, ◌∙◌, ℕ, List, [], ◌∷◌, String, ap, arith, map, rules, string_bytes, suc, sym, zero}
use Rattle.std.proofs.lemmas.List.{map-append}
use Rattle.std.specs.List.{range_with_len}
use Rattle.std.specs.declared.alloc.Global.{Global}
use Rattle.wc_json.specs.Document.{document_view}
use Rattle.wc_selection.specs.Worlds.{world_name}
use Rattle.wc_calls.proofs.encoders.world_names.Goals as goal

next_mapped : (f : ℕ → List ℕ) (a n : ℕ) → map f (range_with_len a (suc n)) ≡ map f (range_with_len a n) ++ f (a + n) ∷ []
next_mapped f a zero = let same : a ≡ a + 0 = omega arith in ap (λ k. f k ∷ []) same
next_mapped f a (suc n) =
    let same : (a + 1) + n ≡ a + suc n = omega arith in
    ap (λ l. f a ∷ l) (next_mapped f (a + 1) n) ∙ ap (λ k. map f (range_with_len a (suc n)) ++ f k ∷ []) same

named_next : (f : ℕ → List ℕ) (n : ℕ) (names new : List (String Global)) (x : String Global) → new ≡ names ++ x ∷ [] → string_bytes x ≡ f n
    → map string_bytes names ≡ map f (range_with_len 0 n) → map string_bytes new ≡ map f (range_with_len 0 (n + 1))
named_next f n names new x put is made =
    let more : n + 1 ≡ suc n = omega arith in
    let same : 0 + n ≡ n = omega arith in
    ap (map string_bytes) put ∙ map-append string_bytes names (x ∷ []) ∙ (λ i. made i ++ is i ∷ [])
    ∙ ap (λ k. map f (range_with_len 0 n) ++ f k ∷ []) (sym same) ∙ sym (next_mapped f 0 n) ∙ ap (λ k. map f (range_with_len 0 k)) (sym more)

pub loop-index-preserved : goal.loop-index-preserved
loop-index-preserved c =
    named_next (world_name (document_view c.args.document.now)) c.loop-index.index c.loop-index.names.items _ _ c.in_ok-push.ensures.items (search rules)
    c.loop-index.invariant
