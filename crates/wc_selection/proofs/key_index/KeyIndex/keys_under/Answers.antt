use Rattle.std.proofs.Common.{◌≡◌, ◌∙◌, IfOk, ap, map, subst, sym}
use Rattle.wc_resolve.specs.Views.{key_view}
use Rattle.wc_selection.proofs.KeyIndexLemmas.{found_apart, keys_are, positions_below}
use Rattle.wc_selection.proofs.key_index.KeyIndex.keys_under.Goals as goal
use Rattle.wc_selection.specs.KeyIndex.{AreApart, keys_under}
use Rattle.wc_selection.specs.Keys.{named_key}
use Rattle.wc_maps.specs.Texts.{text_of}

pub keys_at-requires : goal.keys_at-requires
keys_at-requires c =
    positions_below c.self.inside.keys.now c.self.inside.positions.entries c.self.invariant (map text_of c.args.texts.now) c.in_ok-positions.positions.items
    c.deref.result.now c.in_ok-positions.ensures c.deref.ensures.value

pub key_set-requires : goal.key_set-requires
key_set-requires c =
    let texts = map text_of c.args.texts.now in
    subst AreApart
    (sym (keys_are c.self.inside.keys.now c.self.inside.positions.entries c.self.invariant texts c.in_ok-positions.positions.items c.deref.result.now
    c.in_ok-positions.ensures c.deref.ensures.value c.in_ok-keys.keys.items c.deref-2.result.now c.in_ok-keys.ensures c.deref-2.ensures.value))
    (found_apart texts (map named_key c.self.inside.keys.now) c.self.invariant.apart)

pub returns : goal.returns
returns c =
    let texts = map text_of c.args.texts.now in
    subst (λ keys. IfOk c.key_set.result (λ set. map key_view set.keys ≡ keys))
    (keys_are c.self.inside.keys.now c.self.inside.positions.entries c.self.invariant texts c.in_ok-positions.positions.items c.deref.result.now
    c.in_ok-positions.ensures c.deref.ensures.value c.in_ok-keys.keys.items c.deref-2.result.now c.in_ok-keys.ensures c.deref-2.ensures.value
    ∙ ap (keys_under texts) c.self.view_is) c.key_set.ensures
