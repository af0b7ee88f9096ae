-- Tests of lists that are seen by view.
use Rattle.std.proofs.Common.{◌≡◌, ℕ, List, map, sym, ◌∙◌, String, Global}
use Rattle.std.specs.Prelude.{string_bytes}
use Rattle.std.specs.Borrow.{Bor}
use Rattle.std.specs.List.{list_any}
use Rattle.std.specs.Str.{bytes_eq}
use Rattle.wc_maps.proofs.ListLemmas.{any_viewed}
use Rattle.wc_resolve.specs.declared.worlds.WorldKey.{WorldKey}
use Rattle.wc_selection.specs.Keys.{named_key, texts_of}
use Rattle.wc_maps.specs.Texts.{is_in, text_of}

-- texts, and those of keys, as bytes
pub text_in : (texts : List (Bor (List ℕ))) (text : List ℕ) → list_any (λ t. bytes_eq t.now text) texts ≡ is_in (map text_of texts) text
text_in texts text = sym (any_viewed text_of (λ t. bytes_eq t text) texts)

pub key_in : (keys : List (WorldKey × String Global)) (text : List ℕ)
    → list_any (λ k. bytes_eq (string_bytes k.1) text) keys ≡ is_in (texts_of (map named_key keys)) text
key_in keys text =
    sym (any_viewed (λ k. k.1) (λ t. bytes_eq t text) (map named_key keys) ∙ any_viewed named_key (λ k. bytes_eq k.1 text) keys)
