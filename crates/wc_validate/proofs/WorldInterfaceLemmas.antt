-- The interfaces of an encoder's world.
use Rattle.std.proofs.Common.{◌≡◌, Option, Some, None, IfSome, option_copied, sym, subst}
use Rattle.std.specs.Borrow.{Bor}
use Rattle.wc_encoder.specs.EncoderParts.{EncoderView}
use Rattle.wc_names.specs.Imports.{NameScope}
use Rattle.wc_validate.specs.NameScope.{AreInterfacesOf}
use Rattle.wc_validate.specs.Private.WorldInterfaces.{AreInterfacesFor, AreInterfacesThere}
use Rattle.wc_validate.specs.Validate.{IsNameScopeOf}
use Rattle.wc_validate.specs.declared.name_scope.Interfaces.{Interfaces}
use Rattle.wc_validate.proofs.LawLemmas.{one_name_scope}

pub interfaces_are : (e : EncoderView) (s : NameScope) (i : Interfaces) → IsNameScopeOf e s → AreInterfacesOf s i → AreInterfacesFor e i
interfaces_are e s i scope h = λ t is. subst (λ z. AreInterfacesOf z i) (one_name_scope e s t scope is) h

-- none were made
pub none_there : (e : EncoderView) (o : Option (Bor Interfaces)) → option_copied o ≡ None → AreInterfacesThere e o
none_there e None is = tt
none_there e (Some i) is = let bad : ⊥ = cc is in absurd bad

-- a fact about what an option has, seen through a reference
pub borrowed : {T : Type 0} (P : T → Type 0) (o : Option (Bor T)) (x : Option T) → option_copied o ≡ x → IfSome x P → IfSome o (λ (b : Bor T). P b.now)
borrowed P None x is h = tt
borrowed P (Some b) x is h = subst (λ z. IfSome z P) (sym is) h
