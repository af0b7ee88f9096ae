use Rattle.std.proofs.Common.{ℕ, List, ap, length, subst, sym, ◌<◌, ◌≡◌, ◌∙◌}
use Rattle.wc_resolve.proofs.ViewedLemmas.{all_unviewed}
use Rattle.std.specs.Prelude.{All}
use Rattle.wc_names.specs.declared.export_names.ExportSyntax.TheVariants.{Legacy}
use Rattle.wc_names.specs.declared.first_members.FirstMembers.{FirstMembers}
use Rattle.wc_names.specs.ExportIndex.{exported_interface_view, listed}
use Rattle.wc_names.specs.FirstMembers.{AreFirstMembers}
use Rattle.wc_names.specs.Interfaces.{FoundInterface}
use Rattle.wc_names.proofs.FirstMemberLemmas.{all_under}
use Rattle.wc_names.proofs.first_members.members_by_text.Goals as goal

pub first_members-requires : goal.first_members-requires
first_members-requires c =
    all_unviewed exported_interface_view (λ (f : FoundInterface). f.1 < length c.args.resolve.now.interfaces) c.in-Some-many_of_text.of_text.now
    (subst (λ (z : List FoundInterface). All (λ (f : FoundInterface). f.1 < length c.args.resolve.now.interfaces) z)
    (sym c.in-Some-many_of_text.ensures) (c.requires c.deref.result.now))

pub loop-text-preserved-in-Continue-branch-3 : goal.loop-text-preserved-in-Continue-branch-3
loop-text-preserved-in-Continue-branch-3 c =
    all_under (λ (text : List ℕ) (m : FirstMembers). (c.args.syntax ≡ Legacy) × AreFirstMembers c.args.resolve.now (listed c.args.interfaces.now.entries text) m)
    c.in_ok-own_text.own_text c.in_ok-first.first c.loop-text.members.entries c.keep_first.new.kept.entries (
      c.in-Legacy.is,
      subst (λ (z : List FoundInterface). AreFirstMembers c.args.resolve.now z c.in_ok-first.first)
          (c.in-Some-many_of_text.ensures ∙ ap (listed c.args.interfaces.now.entries) (c.deref.ensures ∙ sym (c.in_ok-own_text.ensures.ok ∙ c.deref-in-Some-many_of_text.ensures))) c.in_ok-first.ensures,
    )
    c.in_ok-keep_first.ensures c.loop-text.invariant
