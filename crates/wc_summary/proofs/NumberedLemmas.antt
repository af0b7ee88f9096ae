-- In a module without segments paths of numbers are those of items, as liveness has them.
use Rattle.std.proofs.Common.{◌≡◌, ℕ, ◌<◌, true, List, [], ◌∷◌, length, get_or, map, refl, sym, ◌∙◌, ap, subst, arith}
use Rattle.std.specs.Prelude.{Contains}
use Rattle.std.proofs.lemmas.List.{get_or-map, get_or_default, length-map}
use Rattle.wc_read.specs.Modules.{ModuleValue}
use Rattle.wc_read.specs.Decoded.{ItemIndex, decode, is_in}
use Rattle.wc_read.specs.Entries.{refs_in}
use Rattle.wc_graph.specs.Reached.{IsPath}
use Rattle.wc_paths.specs.Items.{counts_of, names_in, space_item, space_items}
use Rattle.wc_paths.specs.Numbers.{item_at, number_of, numbers_in}
use Rattle.wc_paths.specs.declared.items.PathItem.{PathItem}
use Rattle.wc_graph.proofs.NumberingLemmas.{path_numbers, path_things}
use Rattle.wc_paths.proofs.NumbersLemmas.{item_back}
use Rattle.wc_paths.proofs.PathLemmas.{IsThere, named_there}
use Rattle.wc_graph.specs.Leads.{HasPath}
use Rattle.wc_summary.proofs.NoSegmentLemmas.{graph_without, names_without, there_in}

-- what is in a list of items of spaces
mapped : (xs : List ItemIndex) (x : ItemIndex) → Contains xs x → Contains (space_items xs) (space_item x)
mapped xs x c =
    let l = length-map xs space_item in
    (c.0, (let h = c.1 in omega (arith, h, l)), get_or-map space_item xs c.0 x (space_item x) c.1 ∙ ap space_item c.2)

unmapped : (xs : List ItemIndex) (t : PathItem) → Contains (space_items xs) t → (x : ItemIndex) × Contains xs x × (space_item x ≡ t)
unmapped [] t c = absurd (let h = c.1 in omega (arith, h))
unmapped (y ∷ ys) t c =
    let l = length-map (y ∷ ys) space_item in
    let within : c.0 < length (y ∷ ys) = (let h = c.1 in omega (arith, h, l)) in
    let x = get_or (y ∷ ys) c.0 y in
    (x, (c.0, within, get_or_default (y ∷ ys) c.0 x y within), sym (get_or-map space_item (y ∷ ys) c.0 y t within) ∙ c.2)

module _ (m : ModuleValue) where
  abbrev pub number : ItemIndex → ℕ
  number x = number_of (counts_of (graph_without m)) (space_item x)

  -- a path of items, as items of the graph
  path_spaces : (x : ItemIndex) (path : List ItemIndex) (y : ItemIndex) → IsPath (refs_in (decode m)) x path y
      → IsPath (names_in (graph_without m)) (space_item x) (space_items path) (space_item y)
  path_spaces x [] y p = ap space_item p
  path_spaces x (z ∷ zs) y p = (
    subst (λ (ns : List PathItem). Contains ns (space_item z)) (sym (names_without m x)) (mapped (refs_in (decode m) x) z p.0),
    path_spaces z zs y p.1,
  )

  -- and back
  pub record IsPathOfItems (x : ItemIndex) (things : List PathItem) (last : PathItem) : Type 0 where
    pub path : List ItemIndex
    pub end : ItemIndex
    pub ends : space_item end ≡ last
    pub leads : IsPath (refs_in (decode m)) x path end

  path_items : (x : ItemIndex) (things : List PathItem) (last : PathItem) → IsPath (names_in (graph_without m)) (space_item x) things last → IsPathOfItems x things last
  path_items x [] last p = record { path = []; end = x; ends = p; leads = refl }
  path_items x (t ∷ ts) last p =
      let z = unmapped (refs_in (decode m) x) t (subst (λ (ns : List PathItem). Contains ns t) (names_without m x) p.0) in
      let r = path_items z.0 ts last (subst (λ (u : PathItem). IsPath (names_in (graph_without m)) u ts last) (sym z.2) p.1) in
      record { path = z.0 ∷ r.path; end = r.end; ends = r.ends; leads = (z.1, r.leads) }

  there : (x : ItemIndex) → is_in (decode m) x ≡ true → IsThere (graph_without m) (space_item x)
  there x h = there_in m x.0 x.1 ∙ h

  pub path_to_numbers : (x y : ItemIndex) (path : List ItemIndex) → is_in (decode m) x ≡ true → IsPath (refs_in (decode m)) x path y
      → HasPath (numbers_in (graph_without m)) (number x) (number y)
  path_to_numbers x y path h p =
      let g = graph_without m in (
        map (number_of (counts_of g)) (space_items path),
        path_numbers (number_of (counts_of g)) (item_at (counts_of g)) (IsThere g) (item_back (counts_of g)) (names_in g) (named_there g)
            (space_item x) (space_items path) (space_item y) (there x h) (path_spaces x path y p),
      )

  -- the item to which a path of numbers leads
  pub record IsReachedItem (x : ItemIndex) (n : ℕ) : Type 0 where
    pub item : ItemIndex
    pub path : List ItemIndex
    pub leads : IsPath (refs_in (decode m)) x path item
    pub there : is_in (decode m) item ≡ true
    pub is : number item ≡ n

  pub path_from_numbers : (x : ItemIndex) (n : ℕ) → is_in (decode m) x ≡ true → HasPath (numbers_in (graph_without m)) (number x) n → IsReachedItem x n
  path_from_numbers x n h p =
      let g = graph_without m in
      let r = path_things (number_of (counts_of g)) (item_at (counts_of g)) (IsThere g) (item_back (counts_of g)) (names_in g) (named_there g)
      (space_item x) p.0 n (there x h) p.1 in
      let q = path_items x r.things r.last r.leads in
      record {
        item = q.end;
        path = q.path;
        leads = q.leads;
        there = sym (there_in m q.end.0 q.end.1) ∙ subst (IsThere g) (sym q.ends) r.holds;
        is = ap (number_of (counts_of g)) q.ends ∙ r.ends;
      }
