-- The laws of Bearer credentials.
use Rattle.std.{specs.Prelude.{IsTrue, refl}, proofs.Common.{sym, ◌∙◌, subst}}
use Rattle.headers_syntax.{specs.Lines.Line, specs.Text.is_text}
use Rattle.headers_authorization.{specs.Scheme.HasScheme, specs.CredentialLaws.CredentialLaws}
use Rattle.headers_authorization.specs.Bearer.{bearer_scheme, SameBearer, ReadsBearer, bearer_writes}

pub bearer_laws : CredentialLaws bearer_scheme SameBearer ReadsBearer bearer_writes
bearer_laws =
    record {
      same_refl = λ v. refl;
      same_sym = λ v w e. sym e;
      same_trans = λ u v w e f. e ∙ f;
      reads_same = λ line v w e h. (h.0, sym e ∙ h.1);
      writes_same = λ v w e. e;
      reads_once = λ line v w h k. h.1 ∙ sym k.1;
      keeps_scheme = λ line v h r. subst (HasScheme bearer_scheme) (sym r.1) h;
      reads_back = λ line v h r. (subst (λ (l : Line). IsTrue (is_text l)) (sym r.1) r.0, refl);
    }
