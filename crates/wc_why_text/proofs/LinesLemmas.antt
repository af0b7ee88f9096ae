-- The lines of the ways of a tree, one after another.
use Rattle.std.proofs.Common.{◌≡◌, ℕ, ◌+◌, ◌<◌, ◌≤◌, Bool, List, [], ◌++◌, map, drop, length, get_or, sym, ap, ◌∙◌, append-nil, append_assoc}
use Rattle.std.proofs.lemmas.List.{at_drop_all, at_drop_more}
use Rattle.wc_why.specs.Tree.{TreeModuleView, tree_way_view}
use Rattle.wc_why.specs.declared.tree.TreeWay.{TreeWay}
use Rattle.wc_why_text.specs.Runs.{Place}
use Rattle.wc_why_text.specs.TreeLines.{lines_after, way_lines, ways_lines}

module _ (many : Bool) (modules : List TreeModuleView) (ways : List TreeWay) where
  abbrev left : List Place → List TreeWay → List ℕ
  left above ws = ways_lines many modules above (map tree_way_view ws)

  -- the lines of so many ways, after which these items have lines
  pub record ArePassed (i : ℕ) (above : List Place) (passed : List ℕ) : Type 0 where
    pub all : passed ++ left above (drop i ways) ≡ left [] ways

  pub passed_none : (above : List Place) → above ≡ [] → ArePassed 0 above []
  passed_none above none = record { all = ap (λ a. left a ways) none }

  pub passed_more : (i : ℕ) (d : TreeWay) (above new : List Place) (passed lines : List ℕ) → i < length ways → ArePassed i above passed
      → lines ≡ way_lines many modules above (tree_way_view (get_or ways i d)) → new ≡ lines_after modules above (tree_way_view (get_or ways i d))
      → ArePassed (i + 1) new (passed ++ lines)
  passed_more i d above new passed lines within before is put = record {
    all = append_assoc passed lines (left new (drop (i + 1) ways))
        ∙ ap (λ l. passed ++ l) ((λ j. is j ++ left (put j) (drop (i + 1) ways)) ∙ sym (at_drop_more (left above) ways i d within))
        ∙ before.all;
  }

  pub passed_all : (i : ℕ) (above : List Place) (passed : List ℕ) → length ways ≤ i → ArePassed i above passed → passed ≡ left [] ways
  passed_all i above passed end before =
      sym (append-nil passed) ∙ ap (λ l. passed ++ l) (sym (at_drop_all (left above) ways i end)) ∙ before.all
