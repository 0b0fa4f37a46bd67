-- The laws of Basic credentials.
use Rattle.std.proofs.Common.{◌≡◌, ℕ, List, drop, Some, refl, sym, ◌∙◌, ap, subst, arith, inl, inr}
use Rattle.std.proofs.lemmas.Bool.{cases_lt}
use Rattle.memchr.specs.Find.{IsFirstByte, is_byte}
use Rattle.base64.specs.GeneralPurpose.{IsBytes}
use Rattle.headers_syntax.specs.Lines.{Line}
use Rattle.headers_authorization.{specs.Base64.base64, specs.Base64Laws.{base64-once, base64-no_space}}
use Rattle.headers_authorization.{specs.Scheme.HasScheme, specs.CredentialLaws.CredentialLaws, specs.Basic.colon}
use Rattle.headers_authorization.specs.Basic.{UserPass, basic_scheme, SameBasic, after_spaces, ReadsBasic, basic_writes}

-- there is one first place
first_once : (bytes : List ℕ) (i j : ℕ) → IsFirstByte (is_byte colon) bytes (Some i)
    → IsFirstByte (is_byte colon) bytes (Some j) → i ≡ j
first_once bytes i j a b =
    elim (cases_lt i j) [
      | inl below ↦ absurd (b.0.before i (omega arith) below a.1)
      | inr above ↦ elim (cases_lt j i) [
        | inl over ↦ absurd (a.0.before j (omega arith) over b.1)
        | inr same ↦ omega (arith, above, same)
      ]
    ]

abbrev user_pass_at : List ℕ → ℕ → UserPass
user_pass_at s k = record { bytes = s; place = k }

basic_once : (line : Line) (v w : UserPass) → ReadsBasic line v → ReadsBasic line w → v ≡ w
basic_once line v w h k =
    let bytes : v.bytes ≡ w.bytes = base64-once v.bytes w.bytes h.octets k.octets (sym h.encoded ∙ k.encoded) in
    let first = subst (λ (s : List ℕ). IsFirstByte (is_byte colon) s (Some v.place)) bytes h.first in
    let place : v.place ≡ w.place = first_once w.bytes v.place w.place first k.first in
    ap (λ (s : List ℕ). user_pass_at s v.place) bytes ∙ ap (user_pass_at w.bytes) place

-- the encoding has the scheme
pub HasScheme-basic : (v : UserPass) → HasScheme basic_scheme (basic_writes v)
HasScheme-basic v = record { longer = omega arith; spaced = refl; named = refl }

-- and the base64 follows it
pub basic_encoded : (v : UserPass) → IsBytes v.bytes → after_spaces (drop 6 (basic_writes v)) ≡ base64 v.bytes
basic_encoded v octets = rw (base64-no_space v.bytes octets) refl

pub basic_laws : CredentialLaws basic_scheme SameBasic ReadsBasic basic_writes
basic_laws =
    record {
      same_refl = λ v. refl;
      same_sym = λ v w e. sym e;
      same_trans = λ u v w e f. e ∙ f;
      reads_same = λ line v w e h. subst (ReadsBasic line) e h;
      writes_same = λ v w e. ap basic_writes e;
      reads_once = basic_once;
      keeps_scheme = λ line v h r. HasScheme-basic v;
      reads_back =
          λ line v h r.
          record {
            encoded = basic_encoded v r.octets;
            octets = r.octets;
            text = r.text;
            first = r.first;
          };
    }
