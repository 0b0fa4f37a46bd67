use Rattle.std.proofs.Common.{◌≡◌, ℕ, List, Bor, None, Ok, Err, Option, Some, ap, inr, option_map, refl, subst, sym}
use Rattle.std.{proofs.lemmas.Result.err_from_is_err_and, specs.Option.option_copied}
use Rattle.{http_header.specs.{FieldValue.FieldValue, HeaderMap.Entries}, headers.specs.LineMap.lines_at}
use Rattle.{gateway_messages.specs.declared.protocol.Protocol.Protocol, decide_resource.specs.Requests.Request}
use Rattle.{decide_resource.specs.declared.denied.Denied.Denied, c_decisions.specs.Methods.IsMethodOf}
use Rattle.{c_parts.specs.declared.status.Failure.TheVariants.Memory, c_resource.specs.Answers.{AnswersBy, IsRequest}}
use Rattle.c_resource.specs.Requests.{IsAuthorityAnswer, IsDenialAnswer, IsProtocolAnswer, authority_of, content_of}
use Rattle.c_resource.specs.declared.request.{DenialParts.DenialParts, RequestParts.RequestParts}
use Rattle.c_resource.proofs.answer.answer_with.Goals as goal

lent : {X Y : Type 0} (f : X → Y) (given : Option (Bor X)) (value : Option X) → option_copied given ≡ value
    → option_map (λ (it : Bor X). f it.now) given ≡ option_map f value
lent f None value same = ap (option_map f) same
lent f (Some it) value same = ap (option_map f) same

-- the request that was read
is_read : (asked : RequestParts) (denial : DenialParts) (fields : Entries FieldValue) (protocol : Protocol)
    (method : List ℕ) (authority : Option FieldValue) (denied : Option Denied)
    → IsProtocolAnswer asked.version (Ok protocol) → IsMethodOf asked.method.now (Ok method)
    → IsAuthorityAnswer (authority_of asked.target.now) (Ok authority) → IsDenialAnswer denial (Ok denied)
    → (request : Request) × IsRequest asked denial fields request
is_read asked denial fields protocol method authority denied is_protocol is_method is_authority is_denied = (
  record {
    protocol = protocol;
    method = method;
    authority = option_map (λ (value : FieldValue). value.bytes) authority;
    content = content_of asked;
    fields = lines_at fields;
    denied = denied;
  },
  record {
    protocol = is_protocol;
    is_method = is_method.0;
    method_is = is_method.1;
    authority = authority;
    is_authority = is_authority;
    authority_is = refl;
    content = refl;
    fields_are = refl;
    denied = is_denied;
  },
)

pub returns-in_err-answer : goal.returns-in_err-answer
returns-in_err-answer c =
    let answer = c.from_residual-in_err-answer in
    let error = err_from_is_err_and answer.result answer.ensures.1 in
    let is : answer.result ≡ Err Memory = cc (error.1, error.2) in
    let asked = c.args.request.now in
    let denial = c.args.denial.now in
    let read = is_read asked denial c.args.fields.now c.in_ok-protocol.protocol c.in_ok-method.method
    c.in_ok-authority.authority c.in_ok-denial.denial c.in_ok-protocol.ensures c.in_ok-method.ensures
    c.in_ok-authority.ensures c.in_ok-denial.ensures in
    subst (AnswersBy asked denial c.args.fields.now c.args.resource.now) (sym is) (inr (refl, read.0, read.1))

pub returns-in_err-show_answer : goal.returns-in_err-show_answer
returns-in_err-show_answer c =
    let answer = c.from_residual-in_err-show_answer in
    let error = err_from_is_err_and answer.result answer.ensures.1 in
    let is : answer.result ≡ Err Memory = cc (error.1, error.2) in
    let asked = c.args.request.now in
    let denial = c.args.denial.now in
    let read = is_read asked denial c.args.fields.now c.in_ok-protocol.protocol c.in_ok-method.method
    c.in_ok-authority.authority c.in_ok-denial.denial c.in_ok-protocol.ensures c.in_ok-method.ensures
    c.in_ok-authority.ensures c.in_ok-denial.ensures in
    subst (AnswersBy asked denial c.args.fields.now c.args.resource.now) (sym is) (inr (refl, read.0, read.1))

pub returns : goal.returns
returns c =
    let method = c.in_ok-method.ensures in
    record {
      request = record {
        protocol = c.in_ok-protocol.protocol;
        method = c.in_ok-method.method;
        authority = option_map (λ (it : Bor FieldValue). it.now.bytes) c.as_ref-host.result;
        content = c.content_of.result;
        fields = lines_at c.args.fields.now;
        denied = option_copied c.as_ref-denied.result;
      };
      is_request = record {
        protocol = c.in_ok-protocol.ensures;
        is_method = method.0;
        method_is = method.1;
        authority = c.in_ok-authority.authority;
        is_authority = c.in_ok-authority.ensures;
        authority_is = lent (λ (it : FieldValue). it.bytes) c.as_ref-host.result c.in_ok-authority.authority
            c.as_ref-host.ensures.value;
        content = c.content_of.ensures;
        fields_are = refl;
        denied = subst (λ (denied : Option Denied). IsDenialAnswer c.args.denial.now (Ok denied))
            (sym c.as_ref-denied.ensures.value) c.in_ok-denial.ensures;
      };
      answer = c.in_ok-answer.answer;
      is_answer = c.in_ok-answer.ensures;
      is_shown = c.in_ok-show_answer.ensures;
    }
