use Rattle.std.proofs.Common.{◌≡◌, ◌++◌, ◌∷◌, ◌<◌, [], ap, map, refl, subst, sym, ◌∙◌, append_assoc}
use Rattle.std.specs.Prelude.{All, filter}
use Rattle.wc_graph.specs.Private.Places.{is_missing_at}
use Rattle.wc_why.specs.Lists.{first_lists, roots_in}
use Rattle.wc_why.specs.Part.{part_view}
use Rattle.wc_why.specs.Private.Found.{IsFoundOf}
use Rattle.wc_why.specs.Private.Numbers.{place_of, total}
use Rattle.wc_why.proofs.ListLemmas.{four_lists, fourth_numbers, list_found, picked}
use Rattle.wc_why.proofs.lists.find_lists.Goals as goal

pub add-requires-clause-sized : goal.add-requires-clause-sized
add-requires-clause-sized c =
    let ps = map part_view c.args.graph.now.parts.now in
    let n = c.args.graph.now.numbers.now in
    let s0 = c.in_ok-found.ensures ps n (sym c.len.ensures) in
    s0.each

pub add-requires-2-clause-sized : goal.add-requires-2-clause-sized
add-requires-2-clause-sized c =
    let ps = map part_view c.args.graph.now.parts.now in
    let n = c.args.graph.now.numbers.now in
    let s0 = c.in_ok-found.ensures ps n (sym c.len.ensures) in
    c.add.ensures.sized ∙ s0.each

pub add-requires-3-clause-sized : goal.add-requires-3-clause-sized
add-requires-3-clause-sized c =
    let ps = map part_view c.args.graph.now.parts.now in
    let n = c.args.graph.now.numbers.now in
    let s0 = c.in_ok-found.ensures ps n (sym c.len.ensures) in
    c.add-2.ensures.sized ∙ (c.add.ensures.sized ∙ s0.each)

pub add-requires-4-clause-sized : goal.add-requires-4-clause-sized
add-requires-4-clause-sized c =
    let ps = map part_view c.args.graph.now.parts.now in
    let n = c.args.graph.now.numbers.now in
    let s0 = c.in_ok-found.ensures ps n (sym c.len.ensures) in
    c.add-3.ensures.sized ∙ (c.add-2.ensures.sized ∙ (c.add.ensures.sized ∙ s0.each))

pub add-requires-4-clause-roots : goal.add-requires-4-clause-roots
add-requires-4-clause-roots c =
    let ps = map part_view c.args.graph.now.parts.now in
    let n = c.args.graph.now.numbers.now in
    let s0 = c.in_ok-found.ensures ps n (sym c.len.ensures) in
    let f1 = c.add.new.self in
    let f2 = c.add-2.new.self in
    let f3 = c.add-3.new.self in
    let s1 =
    list_found ps n [] c.in_ok-first.first.items c.deref.result.now (roots_in 0 ps) c.deref.ensures.value c.in_ok-first.ensures f1.order.items f1.finder.items f1.places.items
    (c.in_ok-add.ensures.found [] s0) in
    let s2 =
    list_found ps n (roots_in 0 ps ∷ []) c.in_ok-second.second.items c.deref-2.result.now (roots_in 1 ps) c.deref-2.ensures.value c.in_ok-second.ensures f2.order.items
    f2.finder.items f2.places.items (c.in_ok-add-2.ensures.found (roots_in 0 ps ∷ []) s1) in
    let s3 =
    list_found ps n (roots_in 0 ps ∷ roots_in 1 ps ∷ []) c.in_ok-third.third.items c.deref-3.result.now (roots_in 2 ps) c.deref-3.ensures.value c.in_ok-third.ensures
    f3.order.items f3.finder.items f3.places.items (c.in_ok-add-3.ensures.found (roots_in 0 ps ∷ roots_in 1 ps ∷ []) s2) in
    let fourth : c.deref-6.result.now ≡ filter (is_missing_at f3.places.items) c.in_ok-others.others.items =
    c.deref-6.ensures.value ∙ (c.in_ok-fourth.ensures ∙ (ap (λ l. filter (is_missing_at l) c.deref-5.result.now) c.deref-4.ensures.value
    ∙ ap (filter (is_missing_at f3.places.items)) c.deref-5.ensures.value)) in
    subst (All (λ x. x < total n)) (sym fourth)
    (fourth_numbers ps n c.requires.numbered (first_lists ps) f3.order.items f3.finder.items f3.places.items s3 (roots_in 3 ps) c.in_ok-others.others.items c.in_ok-others.ensures)

pub returns : goal.returns
returns c =
    let ps = map part_view c.args.graph.now.parts.now in
    let n = c.args.graph.now.numbers.now in
    let s0 = c.in_ok-found.ensures ps n (sym c.len.ensures) in
    let f1 = c.add.new.self in
    let f2 = c.add-2.new.self in
    let f3 = c.add-3.new.self in
    let s1 =
    list_found ps n [] c.in_ok-first.first.items c.deref.result.now (roots_in 0 ps) c.deref.ensures.value c.in_ok-first.ensures f1.order.items f1.finder.items f1.places.items
    (c.in_ok-add.ensures.found [] s0) in
    let s2 =
    list_found ps n (roots_in 0 ps ∷ []) c.in_ok-second.second.items c.deref-2.result.now (roots_in 1 ps) c.deref-2.ensures.value c.in_ok-second.ensures f2.order.items
    f2.finder.items f2.places.items (c.in_ok-add-2.ensures.found (roots_in 0 ps ∷ []) s1) in
    let s3 =
    list_found ps n (roots_in 0 ps ∷ roots_in 1 ps ∷ []) c.in_ok-third.third.items c.deref-3.result.now (roots_in 2 ps) c.deref-3.ensures.value c.in_ok-third.ensures
    f3.order.items f3.finder.items f3.places.items (c.in_ok-add-3.ensures.found (roots_in 0 ps ∷ roots_in 1 ps ∷ []) s2) in
    let fourth : c.deref-6.result.now ≡ filter (is_missing_at f3.places.items) c.in_ok-others.others.items =
    c.deref-6.ensures.value ∙ (c.in_ok-fourth.ensures ∙ (ap (λ l. filter (is_missing_at l) c.deref-5.result.now) c.deref-4.ensures.value
    ∙ ap (filter (is_missing_at f3.places.items)) c.deref-5.ensures.value)) in
    let rest = filter (is_missing_at f3.places.items) c.in_ok-others.others.items in
    let f4 = c.add-4.new.self in
    let s4 =
    subst (λ l. IsFoundOf ps n (first_lists ps ++ map (place_of n) l ∷ []) f4.order.items f4.finder.items f4.places.items) fourth
    (c.in_ok-add-4.ensures.found (first_lists ps) s3) in
    let below = fourth_numbers ps n c.requires.numbered (first_lists ps) f3.order.items f3.finder.items f3.places.items s3 (roots_in 3 ps) c.in_ok-others.others.items c.in_ok-others.ensures in
    let a = c.in_ok-first.first.items in
    let b = c.in_ok-second.second.items in
    let d = c.in_ok-third.third.items in
    let last : c.deref-9.result.now ≡ rest = c.deref-9.ensures.value ∙ (sym c.deref-6.ensures.value ∙ fourth) in
    let roots : c.extend_from_slice-3.new.self.items ≡ a ++ (b ++ (d ++ rest)) =
    c.in_ok-extend_from_slice-3.ensures.items ∙ (ap (λ l. l ++ c.deref-9.result.now)
    (c.in_ok-extend_from_slice-2.ensures.items ∙ (ap (λ l. l ++ c.deref-8.result.now) (c.in_ok-extend_from_slice.ensures.items ∙ ap (λ l. a ++ l) c.deref-7.ensures.value)
    ∙ ap (λ l. (a ++ b) ++ l) c.deref-8.ensures.value))
    ∙ (ap (λ l. ((a ++ b) ++ d) ++ l) last ∙ (append_assoc (a ++ b) d rest ∙ append_assoc a b (d ++ rest)))) in
    record {
      lists = first_lists ps ++ map (place_of n) rest ∷ [];
      are = record {
        others = map (place_of n) rest;
        are = refl;
        picked =
            picked ps n c.requires.numbered (first_lists ps) f3.order.items f3.finder.items f3.places.items s3 (roots_in 3 ps) c.in_ok-others.others.items
            c.in_ok-others.ensures;
      };
      found = s4;
      roots = four_lists ps n a b d rest c.extend_from_slice-3.new.self.items c.in_ok-first.ensures c.in_ok-second.ensures c.in_ok-third.ensures below roots;
    }
