-- What is imported of an interface, by its parts.
use Rattle.std.proofs.Common.{◌≡◌, ℕ, ◌+◌, ◌-◌, ◌^◌, ◌<◌, List, map, take, length, get_or, min, ap, ◌∙◌, arith}
use Rattle.std.specs.List.{sum_by}
use Rattle.std.proofs.lemmas.List.{map_more}
use Rattle.std.proofs.lemmas.List.Sums.{sum_by_push}
use Rattle.wc_summary.specs.Summary.{AdapterPartView, bytes_of, part_view}
use Rattle.wc_summary.specs.declared.summary.AdapterPart.{AdapterPart}

-- a test over the values of a list
capped : (m a b s : ℕ) → s ≡ a + b → min (min a m + b) m ≡ min s m
capped m a b s e = omega arith

-- one more part
pub bytes_more : (parts : List AdapterPart) (i : ℕ) (part : AdapterPart) (bytes bytes' : ℕ) → i < length parts → get_or parts i part ≡ part
    → bytes ≡ bytes_of (map part_view (take i parts)) → bytes' ≡ min (bytes + part.bytes) (2 ^ 64 - 1) → bytes' ≡ bytes_of (map part_view (take (i + 1) parts))
bytes_more parts i part bytes bytes' h at e e' =
    let more = map_more part_view parts i part h in
    let s : sum_by (λ (p : AdapterPartView). p.bytes) (map part_view (take (i + 1) parts)) ≡ sum_by (λ (p : AdapterPartView). p.bytes) (map part_view (take i parts)) + part.bytes =
    ap (sum_by (λ (p : AdapterPartView). p.bytes)) more
    ∙ (sum_by_push (λ (p : AdapterPartView). p.bytes) (map part_view (take i parts)) (part_view (get_or parts i part))
    ∙ ap (λ (p : AdapterPart). sum_by (λ (q : AdapterPartView). q.bytes) (map part_view (take i parts)) + p.bytes) at) in
    e' ∙ (ap (λ (z : ℕ). min (z + part.bytes) (2 ^ 64 - 1)) e ∙ capped (2 ^ 64 - 1) _ part.bytes _ s)
