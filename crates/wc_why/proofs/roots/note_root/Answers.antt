use Rattle.std.proofs.Common.{◌≡◌, None, map, Some, refl, subst, sym, ◌∙◌}
use Rattle.std.proofs.lemmas.Option.{same_Some}
use Rattle.wc_why.specs.Part.{begin_view}
use Rattle.wc_why.specs.Private.Roots.{IsBeginNoted}
use Rattle.wc_why.proofs.roots.note_root.Goals as goal

pub returns-in-Some-clause-noted : goal.returns-in-Some-clause-noted
returns-in-Some-clause-noted c = record {
  none = λ e. absurd (let eq : Some c.in-Some.number ≡ None = sym c.in-Some.is ∙ (c.number.ensures.number ∙ e) in cc);
  some = λ x e.
      subst (λ z. IsBeginNoted (map begin_view c.args.begins.now) c.args.position z c.args.firsts.now.items c.note_begin.new.firsts.items)
      (same_Some c.in-Some.number x (sym c.in-Some.is ∙ (c.number.ensures.number ∙ e))) c.note_begin.ensures.noted;
}

pub returns-in-None-clause-noted : goal.returns-in-None-clause-noted
returns-in-None-clause-noted c = record {
  none = λ e. refl;
  some = λ x e. absurd (let eq : None ≡ Some x = sym c.in-None.is ∙ (c.number.ensures.number ∙ e) in cc);
}
