use Rattle.std.proofs.Common.{◌≡◌, false, map, rules, true}
use Rattle.wc_why_text.proofs.RustNameLemmas.{read_all, read_more}
use Rattle.std.proofs.lemmas.List.{take_rest}
use Rattle.wc_why.specs.Texts.{text_of}
use Rattle.wc_why_text.specs.RustNames.{is_end}
use Rattle.wc_why_text.proofs.rust_names.parts_of.Goals as goal

pub loop-rest-preserved : goal.loop-rest-preserved
loop-rest-preserved c =
    let more : is_end c.loop-rest.rest.now ≡ false = search rules in
    read_more c.args.text.now c.loop-rest.rest.now c.loop-rest.parts.items c.push.new.self.items c.in-Some.part c.in-Some.after c.loop-rest.invariant more
    c.in-Some.ensures.value c.in-Some.ensures.shorter c.in_ok-push-in-Some.ensures.items

pub returns : goal.returns
returns c =
    let end : is_end c.loop-rest.rest.now ≡ true = search rules in
    read_all c.args.text.now c.loop-rest.rest.now _ (map text_of c.loop-rest.parts.items) c.loop-rest.invariant end (take_rest c.loop-rest.rest.now 1)
