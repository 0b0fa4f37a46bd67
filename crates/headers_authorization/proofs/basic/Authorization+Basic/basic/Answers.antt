use Rattle.std.proofs.Common.{◌≡◌, ℕ, List, ◌∷◌, [], ◌++◌, ◌↔◌, sym, ◌∙◌, ap, subst, arith, length}
use Rattle.std.{specs.Prelude.IsUtf8, specs.String.string_bytes, specs.List.Contains, proofs.lemmas.List.append_assoc}
use Rattle.std.proofs.lemmas.Str.{IsUtf8-string_bytes}
use Rattle.headers_authorization.specs.Basic.{colon, UserPass, user_pass, basic_scheme, ReadsBasic, basic_writes}
use Rattle.headers_authorization.{specs.Scheme.IsReadBack, proofs.BasicLemmas.{IsBytes-user_pass, IsReadBack-user_pass}}
use Rattle.headers_authorization.proofs.basic.Authorization+Basic.basic.Goals as goal

pub returns-clause-back : goal.returns-clause-back
returns-clause-back c =
    let user = c.args.username.now in
    let password = c.args.password.now in
    let bytes : string_bytes c.push_str-2.new.self ≡ user ++ colon ∷ password =
    c.in_ok-push_str-2.ensures.bytes
    ∙ ap (λ (s : List ℕ). s ++ password) c.in_ok-push_str.ensures.bytes
    ∙ ap (λ (s : List ℕ). (s ++ colon ∷ []) ++ password) c.in_ok-decoded.ensures.ok
    ∙ append_assoc user (colon ∷ []) password in
    let octets =
    IsBytes-user_pass user password (λ i. omega (arith, c.type_inv.username i))
    (λ i. omega (arith, c.type_inv.password i)) in
    let same : user_pass user password ≡ record { bytes = string_bytes c.push_str-2.new.self; place = length user } =
    ap (λ (s : List ℕ). record { bytes = s; place = length user }) (sym bytes) in
    subst (λ (v : UserPass). IsReadBack basic_scheme ReadsBasic basic_writes v ↔ ¬ (Contains user colon)) same
    (IsReadBack-user_pass user password (subst IsUtf8 bytes (IsUtf8-string_bytes c.push_str-2.new.self)) octets)
