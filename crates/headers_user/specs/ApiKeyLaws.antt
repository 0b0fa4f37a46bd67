-- The laws of credentials of the scheme `ApiKey`.
use Rattle.std.{specs.Prelude.{◌≡◌, refl}, proofs.Common.{sym, ◌∙◌, ap, subst, arith}}
use Rattle.headers.specs.CredentialLaws.{CredentialLaws}
use Rattle.headers_user.specs.ApiKey.{api_key_scheme, ReadsApiKey, api_key_writes}

pub api_key_laws : CredentialLaws api_key_scheme ◌≡◌ ReadsApiKey api_key_writes
api_key_laws =
    record {
      same_refl = λ v. refl;
      same_sym = λ v w e. sym e;
      same_trans = λ u v w e f. e ∙ f;
      reads_same = λ line v w e h. subst (ReadsApiKey line) e h;
      writes_same = λ v w e. ap api_key_writes e;
      reads_once = λ line v w h k. sym h.1 ∙ k.1;
      keeps_scheme = λ line v h r. record { longer = omega arith; spaced = refl; named = refl };
      reads_back = λ line v h r. (r.0, refl);
    }
