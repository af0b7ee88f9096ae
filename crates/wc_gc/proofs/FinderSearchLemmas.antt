-- A search that notes finders, from what it begins with.
use Rattle.std.proofs.Common.{◌≡◌, ℕ, ◌+◌, ◌-◌, ◌<◌, ◌≤◌, List, [], ◌++◌, length, replicate, get_or, refl, sym, ◌∙◌, ap, subst, Bool, inl, inr, arith}
use Rattle.std.proofs.Common.{append_assoc, append-nil}
use Rattle.std.specs.Prelude.{Contains, ◌↔◌}
use Rattle.std.proofs.lemmas.Bool.{cases_lt}
use Rattle.std.proofs.lemmas.List.{get_or_append_left, get_or-append_right, get_or-replicate, get_or_default}
use Rattle.wc_read.specs.Decoded.{DecodedModule, ItemIndex}
use Rattle.wc_read.specs.Entries.{refs_in}
use Rattle.wc_graph.specs.Reached.{IsReachedFrom}
use Rattle.wc_graph.specs.Finders.{AreFound, IsOrdered, IsTree}
use Rattle.wc_graph.specs.Growth.{HasGrown, IsTied}
use Rattle.wc_gc.proofs.ReachLemmas.{IsAt, reached_at}
use Rattle.wc_graph.proofs.GrowthLemmas.{search_start}
use Rattle.wc_graph.proofs.ShortestLemmas.{deeper, shortest_start, shortest_step}
use Rattle.wc_graph.proofs.OrderLemmas.{order_start, order_step}

-- what is in a search is what was found from it
pub grown_itself : {X : Type 0} (has : X → Bool) (found : List X) → IsTied has found → HasGrown [] has found found
grown_itself has found tied = record {
  tied = tied;
  after = (found, refl);
  all = λ x c. c;
  only = λ x c. inr c;
  ordered = λ i j d h k l. (
    i,
    omega arith,
    get_or_default found i (get_or found i d) d (omega arith),
    λ n m e. tied.distinct n j (get_or found i d) (omega arith) l (e ∙ sym (get_or_default found j (get_or found i d) d l)),
  );
}

pub record HasFinders (m : DecodedModule) (roots : List ItemIndex) (has : ItemIndex → Bool) (found : List ItemIndex) (finder : List ℕ) (next : ℕ) : Type 0 where
  pub at : IsAt m roots has found next
  pub tree : (depth : ℕ → ℕ) × IsTree (refs_in m) roots found finder depth next × IsOrdered (refs_in m) roots found finder depth next
  pub begins : (more : List ItemIndex) × (found ≡ roots ++ more)
  pub own : (k : ℕ) → k < length found → get_or finder k 0 ≡ k → k < length roots

pub finders_start : (m : DecodedModule) (has : ItemIndex → Bool) (found : List ItemIndex) (finder : List ℕ) → IsTied has found → length finder ≡ length found
    → ((k : ℕ) → k < length found → get_or finder k 0 ≡ k) → HasFinders m found has found finder 0
finders_start m has found finder tied sized own = record {
  at = record { searched = search_start (refs_in m) found has found (grown_itself has found tied); in_range = λ k d h. absurd (omega arith) };
  tree = (
    (λ k. 0),
    shortest_start (refs_in m) found has found finder (grown_itself has found tied) sized own,
    order_start (refs_in m) found has found finder (grown_itself has found tied),
  );
  begins = ([], sym (append-nil found));
  own = λ k h e. h;
}

pub finders_step : (m : DecodedModule) (roots : List ItemIndex) (has : ItemIndex → Bool) (found : List ItemIndex) (finder : List ℕ) (next : ℕ) (has' : ItemIndex → Bool)
    (found' : List ItemIndex) (finder' : List ℕ) (x : ItemIndex) → next < length found → ((d : ItemIndex) → get_or found next d ≡ x)
    → HasFinders m roots has found finder next → HasGrown found has' found' (refs_in m x) → IsAt m roots has' found' (next + 1)
    → finder' ≡ finder ++ replicate (length found' - length found) next → HasFinders m roots has' found' finder' (next + 1)
finders_step m roots has found finder next has' found' finder' x lt read f g at filled = record {
  at = at;
  tree = (
    deeper f.tree.0 (length found) next,
    subst (λ v. IsTree (refs_in m) roots found' v (deeper f.tree.0 (length found) next) (next + 1)) (sym filled)
        (shortest_step (refs_in m) roots found finder f.tree.0 next has' found' x lt read f.tree.1 g),
    subst (λ v. IsOrdered (refs_in m) roots found' v (deeper f.tree.0 (length found) next) (next + 1)) (sym filled)
        (order_step (refs_in m) roots found finder f.tree.0 next has' found' x lt read f.tree.1 f.tree.2 g),
  );
  begins = (
    f.begins.0 ++ g.after.0,
    g.after.1 ∙ (ap (λ z. z ++ g.after.0) f.begins.1 ∙ append_assoc roots f.begins.0 g.after.0),
  );
  own = λ k h e. elim (cases_lt k (length found)) [
    | inl old ↦ f.own k old (sym (finder_old k old) ∙ (ap (λ z. get_or z k 0) (sym filled) ∙ e))
    | inr new ↦ absurd (let q = sym (finder_new k new h) ∙ (ap (λ z. get_or z k 0) (sym filled) ∙ e) in omega (arith, q, new, lt))
  ];
}
  where
    finder_old : (k : ℕ) → k < length found → get_or (finder ++ replicate (length found' - length found) next) k 0 ≡ get_or finder k 0
    finder_old k h = let z = f.tree.1.sized in get_or_append_left finder (replicate (length found' - length found) next) 0 k (omega (arith, z))

    finder_new : (k : ℕ) → length found ≤ k → k < length found' → get_or (finder ++ replicate (length found' - length found) next) k 0 ≡ next
    finder_new k h l =
        let z = f.tree.1.sized in
        get_or-append_right finder (replicate (length found' - length found) next) (length found) k 0 z h
        ∙ get_or-replicate (length found' - length found) (k - length found) next 0 (omega arith)

pub found_reached : (m : DecodedModule) (roots : List ItemIndex) (has : ItemIndex → Bool) (found : List ItemIndex) (next : ℕ) → length found ≤ next
    → IsAt m roots has found next → (x : ItemIndex) → Contains found x ↔ IsReachedFrom (refs_in m) roots x
found_reached m roots has found next over s x = (s.searched.are_reached x, λ r. s.searched.tied.is_listed x ((reached_at m roots has found next over s x).1 r))

pub all_found : (m : DecodedModule) (roots : List ItemIndex) (has : ItemIndex → Bool) (found : List ItemIndex) (finder : List ℕ) (next : ℕ) → length found ≤ next
    → HasFinders m roots has found finder next → AreFound (refs_in m) roots found finder
all_found m roots has found finder next over f =
    let within = f.tree.1.within in
    let all : next ≡ length found = omega (arith, within, over) in (
      f.tree.0,
      subst (IsTree (refs_in m) roots found finder f.tree.0) all f.tree.1,
      subst (IsOrdered (refs_in m) roots found finder f.tree.0) all f.tree.2,
    )
