use Rattle.std.proofs.Common.{◌≡◌, Some, None, refl, subst, sym}
use Rattle.std.specs.Map.{lookup, set_value}
use Rattle.std.specs.Str.{bytes_eq}
use Rattle.wc_resolve.specs.Views.{key_view}
use Rattle.wc_resolve.specs.contracts.worlds.WorldKeyPartialEq.TheImpl.{eq-value as world_key_eq}
use Rattle.wc_names.specs.Keys.{key_eq}
use Rattle.wc_validate.specs.FirstByKey.{under_text}
use Rattle.wc_validate.proofs.FirstByKeyLemmas.{key_test, keys_law, name_added, name_first, on_ok}
use Rattle.wc_names.proofs.KeyLemmas.{keys_viewed as keys_agree}
use Rattle.wc_validate.proofs.first_by_key.FirstByKey.keep.Goals as goal

pub returns-in-Some : goal.returns-in-Some
returns-in-Some c =
    on_ok c.keep_name.result
    (λ more asked called. name_added key_eq keys_law key_view (λ names n. under_text names.entries n) (λ n. bytes_eq n c.args.name.now) c.args.position
    (key_view c.args.key.now) asked called
    c.args.self.now.keys.entries (c.get_mut.follows.lender c.keep_name.new.names).entries c.in-Some.names.now c.keep_name.new.names
    (subst (λ z. (c.get_mut.follows.lender c.keep_name.new.names).entries ≡ set_value z c.args.self.now.keys.entries c.keep_name.new.names)
    (key_test c.args.key.now) (c.get_mut.follows.holds c.keep_name.new.names).0)
    (subst (λ z. lookup z c.args.self.now.keys.entries ≡ Some c.in-Some.names.now) (key_test c.args.key.now) (sym c.in-Some.ensures.value)) (more called))
    c.keep_name.ensures.kept

pub returns : goal.returns
returns c = λ asked called.
    name_first key_eq keys_law key_view (λ names n. under_text names.entries n) (λ n. bytes_eq n c.args.name.now) c.args.position (key_view c.args.key.now)
    asked called
    world_key_eq.it keys_agree c.args.self.now.keys.entries c.insert.new.self.entries c.in_ok-clone.field-0 c.in_ok-names.names
    (rw c.get_mut.follows.holds-at-none at c.in_ok-insert.ensures.entries) c.in_ok-clone.ensures
    (subst (λ z. lookup z c.args.self.now.keys.entries ≡ None) (key_test c.args.key.now) (sym c.in_default.ensures.value))
    (rw (c.in_ok-names.ensures.2, c.in_ok-names.ensures.1) refl)
