-- A search that notes finders, of items that are numbered from 0.
use Rattle.std.proofs.Common.{◌≡◌, ℕ, ◌+◌, ◌-◌, ◌<◌, ◌≤◌, List, [], ◌++◌, length, replicate, get_or, sym, ◌∙◌, ap, subst, Bool, true, Some, inl, inr, arith}
use Rattle.std.specs.Prelude.{AllPairs, Contains, ◌≢◌, ◌↔◌}
use Rattle.std.proofs.lemmas.Bool.{cases_lt}
use Rattle.std.proofs.lemmas.List.{get_or_append_left}
use Rattle.std.proofs.lemmas.List.Elements.{Contains-get_or}
use Rattle.std.specs.List.{slice_get}
use Rattle.wc_graph.specs.ShortestChains.{IsFinderChain, IsShortestChain}
use Rattle.wc_graph.specs.Reached.{IsReachedFrom}
use Rattle.wc_graph.specs.Finders.{AreFound, IsOrdered, IsTree}
use Rattle.wc_graph.specs.Growth.{HasGrown}
use Rattle.wc_graph.proofs.FinderChainLemmas.{finder_chains}
use Rattle.wc_graph.proofs.OrderLemmas.{order_start, order_step}
use Rattle.wc_graph.proofs.GrowthLemmas.{IsSearched, search_start, search_step, search_end}
use Rattle.wc_graph.proofs.ShortestLemmas.{deeper, shortest_start, shortest_step}
use Rattle.wc_graph.specs.Search.{IsTreeOf}
use Rattle.wc_graph.specs.declared.tree.Tree.{Tree}

-- what was found, of which so many were gone through, and name only what is there
pub record HasSearched (names : ℕ → List ℕ) (is_closed : ℕ → Bool) (roots : List ℕ) (has : ℕ → Bool) (found finder : List ℕ) (next : ℕ) : Type 0 where
  pub searched : IsSearched names roots has found next
  pub tree : (depth : ℕ → ℕ) × IsTree names roots found finder depth next × IsOrdered names roots found finder depth next
  pub closed : (k d : ℕ) → k < next → is_closed (get_or found k d) ≡ true

module _ (names : ℕ → List ℕ) (is_closed : ℕ → Bool) (roots : List ℕ) where
  pub search_begun : (has : ℕ → Bool) (found finder : List ℕ) → HasGrown [] has found roots → length finder ≡ length found
      → ((k : ℕ) → k < length found → get_or finder k 0 ≡ k) → HasSearched names is_closed roots has found finder 0
  search_begun has found finder grown sized own = record {
    searched = search_start names roots has found grown;
    tree = ((λ k. 0), shortest_start names roots has found finder grown sized own, order_start names roots has found finder grown);
    closed = λ k d h. absurd (omega arith);
  }

  pub search_next : (has : ℕ → Bool) (found finder : List ℕ) (next : ℕ) (has' : ℕ → Bool) (found' finder' : List ℕ) (x : ℕ) → next < length found
      → ((d : ℕ) → get_or found next d ≡ x) → HasSearched names is_closed roots has found finder next → HasGrown found has' found' (names x) → is_closed x ≡ true
      → finder' ≡ finder ++ replicate (length found' - length found) next → HasSearched names is_closed roots has' found' finder' (next + 1)
  search_next has found finder next has' found' finder' x lt read s g here filled = record {
    searched = search_step names roots has found next has' found' x lt read s.searched g;
    tree = (
      deeper s.tree.0 (length found) next,
      subst (λ v. IsTree names roots found' v (deeper s.tree.0 (length found) next) (next + 1)) (sym filled)
          (shortest_step names roots found finder s.tree.0 next has' found' x lt read s.tree.1 g),
      subst (λ v. IsOrdered names roots found' v (deeper s.tree.0 (length found) next) (next + 1)) (sym filled)
          (order_step names roots found finder s.tree.0 next has' found' x lt read s.tree.1 s.tree.2 g),
    );
    closed = λ k d h. elim (cases_lt k next) [
      | inl less ↦ subst (λ v. is_closed v ≡ true) (sym (old_at k d (omega arith))) (s.closed k d less)
      | inr more ↦
          let same : k ≡ next = omega arith in
          subst (λ v. is_closed v ≡ true) (sym (ap (λ i. get_or found' i d) same ∙ (old_at next d lt ∙ read d))) here
    ];
  }
    where
      old_at : (k d : ℕ) → k < length found → get_or found' k d ≡ get_or found k d
      old_at k d h = ap (λ z. get_or z k d) g.after.1 ∙ get_or_append_left found g.after.0 d k h

  module _ (has : ℕ → Bool) (found finder : List ℕ) (next : ℕ) (over : length found ≤ next) (s : HasSearched names is_closed roots has found finder next) where
    pub all_reached : (x : ℕ) → Contains found x ↔ IsReachedFrom names roots x
    all_reached x = (s.searched.are_reached x, λ r. s.searched.tied.is_listed x ((search_end names roots has found next over s.searched x).1 r))

    pub all_closed : (x : ℕ) → IsReachedFrom names roots x → is_closed x ≡ true
    all_closed x r = let c = (all_reached x).1 r in subst (λ v. is_closed v ≡ true) c.2 (s.closed c.0 x (let l = c.1 in omega (arith, over, l)))

    pub are_found : AreFound names roots found finder
    are_found =
        let within = s.tree.1.within in
        let all : next ≡ length found = omega (arith, within, over) in (
          s.tree.0,
          subst (IsTree names roots found finder s.tree.0) all s.tree.1,
          subst (IsOrdered names roots found finder s.tree.0) all s.tree.2,
        )

    pub tree_of : (t : Tree) → t.order.items ≡ found → t.finder.items ≡ finder → IsTreeOf names roots t
    tree_of t e f = record {
      reached = subst (λ (z : List ℕ). (x : ℕ) → Contains z x ↔ IsReachedFrom names roots x) (sym e) all_reached;
      once = subst (λ (z : List ℕ). AllPairs (λ x y. x ≢ y) z) (sym e) s.searched.tied.distinct;
      chains = subst (λ (z : List ℕ). (k x : ℕ) (chain : List ℕ) → slice_get z k ≡ Some x → IsFinderChain z t.finder.items k chain → IsShortestChain names roots x chain)
          (sym e)
          (subst (λ (z : List ℕ). (k x : ℕ) (chain : List ℕ) → slice_get found k ≡ Some x → IsFinderChain found z k chain → IsShortestChain names roots x chain)
          (sym f) (finder_chains names roots found finder are_found));
    }

  pub bad_reached : (has : ℕ → Bool) (found finder : List ℕ) (next x : ℕ) → next < length found → ((d : ℕ) → get_or found next d ≡ x)
      → HasSearched names is_closed roots has found finder next → IsReachedFrom names roots x
  bad_reached has found finder next x lt read s = s.searched.are_reached x (subst (Contains found) (read x) (Contains-get_or found next x lt))
