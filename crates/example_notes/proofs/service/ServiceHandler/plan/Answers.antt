use Rattle.std.proofs.{Common.{ℕ, List, Option, refl, ◌++◌, ◌∙◌, ap, subst}, lemmas.List.map-append}
use Rattle.{http_uri.specs.{Uri.uri_path, declared.uri.Uri.Uri}, headers.specs.LineMap.{Field, field_of, fields_of}}
use Rattle.{headers.specs.declared.Encoded.Encoded, example_notes.specs.Plans.{Carries, IsAnswerAt, date_fields}}
use Rattle.example_notes.specs.{Targets.IsTarget, declared.notes.Note.Note}
use Rattle.example_notes.proofs.service.ServiceHandler.plan.Goals as goal

pub returns : goal.returns
returns c =
    let routes = c.args.self.now.routes in
    let answer = c.in_ok-answer.answer in
    let done = c.in_ok-done.done in
    record {
      at = c.target_of-target.result;
      is_at = subst (λ (path : List ℕ). IsTarget routes.router path c.target_of-target.result)
          (c.path.ensures.value ∙ ap (λ (uri : Uri). uri_path uri) c.uri.ensures) c.target_of-target.ensures;
      text = c.in_ok-text.text;
      is_text = c.in_ok-text.ensures;
      answer = answer;
      answers = subst
          (λ (text : Option Note). IsAnswerAt routes.nowhere routes.server_wide c.target_of-target.result text
          c.args.request.now answer) c.as_ref.ensures.value c.in_ok-answer.ensures;
      done = done;
      does = c.in_ok-done.ensures;
      date = c.now-date.result;
      status = c.add_fields.ensures.status ∙ c.add_content.ensures.status;
      carries = subst (λ (sent : List Field). Carries sent c.add_fields.new.plan) (c.in_ok-sent.ensures
          ∙ ap (λ (fields : List Field). date_fields c.now-date.result ++ fields)
          (ap (λ (fields : List Encoded). fields_of fields) c.in_ok-append.ensures.items
          ∙ map-append field_of answer.fields.items done.fields.items)) c.in_ok-add_fields.ensures.headers;
      content = c.add_fields.ensures.pieces ∙ c.in_ok-add_content.ensures.pieces;
      routes = refl;
    }
