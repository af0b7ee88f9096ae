use Rattle.std.proofs.Common.{◌≡◌, ◌∙◌, Bool, List, ap, map, subst}
use Rattle.wc_selection.specs.KeyNames.{indexed_exports, indexed_keys}
use Rattle.wc_selection.specs.Keys.{AreKeysApart, NamedKey, export_keys, named_key, texts_of}
use Rattle.wc_selection.specs.ModuleKeys.{AreKeysThere}
use Rattle.wc_selection.specs.Requests.{given_keys, request_value}
use Rattle.wc_calls.specs.AskedKeys.{main_keys}
use Rattle.wc_calls.proofs.asked_keys.asked_by.Goals as goal

pub returns-clause-asked : goal.returns-clause-asked
returns-clause-asked c =
    let q = request_value c.args.request.now in
    let own : map named_key c.deref.result.now ≡ export_keys c.args.world.resolve.now c.args.world.world.0 =
    ap (map named_key) c.deref.ensures.value ∙ c.in_ok-own.ensures.keys in
    let listed = c.in_ok-keys.ensures.keys ∙ ap (indexed_exports q) own in
    let first = ap (map named_key) c.deref-3.ensures.value ∙ listed in
    let second = ap (map named_key) c.deref-4.ensures.value ∙ listed in
    let keys = indexed_keys q c.args.world.resolve.now c.args.world.world.0 in
    record {
      listed = listed;
      differ = subst AreKeysApart listed c.in_ok-keys.ensures.differ;
      there = subst (λ (ks : List NamedKey). AreKeysThere (given_keys q) (texts_of ks)) first c.in_ok-check_asked.ensures.there;
      main = c.in_ok-main.ensures ∙ (ap (main_keys c.gives_none.result q) second ∙ ap (λ (none : Bool). main_keys none q keys) c.gives_none.ensures);
    }
