-- Responses of the caller's.
use Rattle.{std.proofs.Common.{◌≡◌, ℕ, List, Result, Ok, Err, inr, subst}, http.specs.StatusCode.IsStatusCode}
use Rattle.{http_header.specs.{FieldValue.FieldValue, HeaderMap.Entries}, headers_section.specs.Section.Holds}
use Rattle.{http1.specs.Fields.Header, c_parts.specs.declared.status.Failure.Failure}
use Rattle.{c_handles.specs.declared.held.HeldGate.HeldGate}
use Rattle.c_gate.specs.Answers.{AddsLines, AddsSection, AreSent, Responds, RespondsFor, RespondsWith, header_lines}

module _ (number status length : ℕ) (section : List ℕ) (fields : Entries FieldValue) (lines : List Header)
    (old new : HeldGate) where
  responds_for : (answer : Result (Unit {0}) Failure) → IsStatusCode number → status ≡ number → Holds section fields
      → AreSent old.connection.asked status fields lines → RespondsWith status length lines old new answer
      → RespondsFor number length section old new answer
  responds_for answer code is holds sent given = (
    code,
    fields,
    holds,
    lines,
    subst (λ (n : ℕ). AreSent old.connection.asked n fields lines) is sent,
    subst (λ (n : ℕ). RespondsWith n length lines old new answer) is given,
  )

  pub responds : (answer : Result (Unit {0}) Failure) → IsStatusCode number → status ≡ number → Holds section fields
      → AreSent old.connection.asked status fields lines → RespondsWith status length lines old new answer
      → Responds number length section old new answer
  responds (Ok tt) code is holds sent given = responds_for (Ok tt) code is holds sent given
  responds (Err failure) code is holds sent given =
      inr (inr (inr (responds_for (Err failure) code is holds sent given)))

-- what is added is a section's field lines
pub adds : (section : List ℕ) (fields : Entries FieldValue) (lines : List Header) (old new : HeldGate)
    (answer : Result (Unit {0}) Failure) → Holds section fields → lines ≡ header_lines fields
    → AddsLines lines old new answer → AddsSection section old new answer
adds section fields lines old new (Ok tt) holds is given =
    (fields, holds, subst (λ (it : List Header). AddsLines it old new (Ok tt)) is given)
adds section fields lines old new (Err failure) holds is given =
    inr (fields, holds, subst (λ (it : List Header). AddsLines it old new (Err failure)) is given)
