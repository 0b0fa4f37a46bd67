-- What fields leave of a stored response that another one validates.
use Rattle.std.proofs.{Common.{◌≡◌, ◌≢◌, ◌∙◌, ℕ, Bool, true, false, List, ◌++◌, ap}, lemmas.List.map-append}
use Rattle.{std.specs.Bool.MatchBool, http_header.specs.{FieldValue.FieldValue, HeaderMap.{Entries, IsHeaderMap}}}
use Rattle.headers.specs.{LineMap.{Field, LineMap, field_of, fields_of, lines_at, set_all}, declared.Encoded.Encoded}
use Rattle.{headers.specs.{Lines.Line, Typed.HasLine}, cache_policy.proofs.FresheningLemmas.freshens}
use Rattle.{cache_policy.specs.Freshening.freshening_fields, cache_rules.specs.Freshening.{IsFreshened, IsRenewed}}
use Rattle.cache_rules.specs.{Freshening.{SaysAsBefore, aged_anew, aging_fields}, Stored.fields_of_stored}
use Rattle.cache_rules.specs.declared.{freshening.Exchange.Exchange, stored.StoredResponse.StoredResponse}

-- the fields that say how old a response is, and others after them
pub aging_first : (received : ℕ) (aging later all : List Encoded) → fields_of aging ≡ aging_fields received
    → all ≡ aging ++ later → fields_of all ≡ aging_fields received ++ fields_of later
aging_first received aging later all is appended = ap fields_of appended ∙ map-append field_of aging later
    ∙ ap (λ (first : List Field). first ++ fields_of later) is

-- what they leave of a stored response
pub set_renewing : (received : ℕ) (old new : LineMap) (all later : List Field)
    → all ≡ aging_fields received ++ later → ((name : List ℕ) → new name ≡ set_all old all name)
    → (name : List ℕ) → new name ≡ set_all (aged_anew received old) later name
set_renewing received old new all later is set name =
    set name ∙ ap (λ (fields : List Field). set_all old fields name) is

-- so the fields of a validating response freshen it
pub freshened_by : (old new : StoredResponse) (update : Entries FieldValue) (fields : List Field) (exchange : Exchange)
    → IsHeaderMap update → fields ≡ freshening_fields update
    → IsRenewed old (set_all (aged_anew exchange.received (fields_of_stored old)) fields) exchange new
    → IsFreshened old (lines_at update) exchange new
freshened_by old new update fields exchange valid is h = record {
  method = h.method;
  request = h.request;
  status = h.status;
  content = h.content;
  requested = h.requested;
  received = h.received;
  fields = λ name. h.fields name ∙ ap
      (λ (fs : List Field). set_all (aged_anew exchange.received (fields_of_stored old)) fs name) is ∙ freshens _ _
      valid name;
}

-- where there are field lines, the field says as before exactly if they are the stored ones
pub as_before : (b : Bool) (own other : List Line) → HasLine other → MatchBool b (own ≡ other) (own ≢ other)
    → MatchBool b (SaysAsBefore own other) (¬ (SaysAsBefore own other))
as_before true own other has same = λ _. same
as_before false own other has differ = λ says. differ (says has)
