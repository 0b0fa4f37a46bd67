-- What the calls on a handle do to its plan.
use Rattle.std.specs.Prelude.{◌≡◌, ◌⊎◌, ℕ, List, [], ◌∷◌, ◌++◌, Result, Ok, Err}
use Rattle.{http.specs.StatusCode.IsStatusCode, http_header.specs.{FieldName.IsFieldName, FieldValue.FieldValue}}
use Rattle.http_header.specs.{FieldValue.{IsFieldValue, plain_value}, Token.lowercase}
use Rattle.{http_server.specs.Response.fields, server_connection.specs.declared.piece.Piece.Piece}
use Rattle.c_parts.specs.declared.status.Failure.{Failure, TheVariants.{Refused, Memory}}
use Rattle.c_handles.specs.declared.held.HeldConnection.{HeldConnection}

-- the connection stays as it is, whatever becomes of the plan
pub record KeepsConnection (old new : HeldConnection) : Type 0 where
  pub connection : new.connection ≡ old.connection
  pub begun : new.has_begun ≡ old.has_begun
  pub rejection : new.rejection ≡ old.rejection

-- the plan is one with this status, and without field lines and content; or the number is no status
abbrev pub Begins : ℕ → HeldConnection → HeldConnection → Result (Unit {0}) Failure → Type 0
Begins status old new (Ok tt) =
    KeepsConnection old new × (new.plan.status ≡ status) × (fields new.plan.headers.items ≡ [])
    × (new.plan.pieces.items ≡ [])
Begins status old new (Err failure) = (failure ≡ Refused) × (new ≡ old) × ¬ (IsStatusCode status)

-- A field line follows the others of the plan. Else they stay: the name or the value is none, or no memory is left.
abbrev pub AddsField : (name value : List ℕ) → HeldConnection → HeldConnection → Result (Unit {0}) Failure → Type 0
AddsField name value old new (Ok tt) =
    KeepsConnection old new × (new.plan.status ≡ old.plan.status) × (new.plan.pieces.items ≡ old.plan.pieces.items)
    × (fields new.plan.headers.items ≡ fields old.plan.headers.items ++ (lowercase name, value) ∷ [])
AddsField name value old new (Err failure) =
    KeepsConnection old new × (new.plan.status ≡ old.plan.status) × (new.plan.pieces.items ≡ old.plan.pieces.items)
    × (fields new.plan.headers.items ≡ fields old.plan.headers.items)
    × ((failure ≡ Memory) ⊎ ((failure ≡ Refused) × ((¬ (IsFieldName name)) ⊎ (¬ (IsFieldValue value)))))

-- A piece follows the others of the plan, or no memory is left.
abbrev pub AddsPiece : Piece → HeldConnection → HeldConnection → Result (Unit {0}) Failure → Type 0
AddsPiece piece old new (Ok tt) =
    KeepsConnection old new × (new.plan.status ≡ old.plan.status) × (new.plan.headers ≡ old.plan.headers)
    × (new.plan.pieces.items ≡ old.plan.pieces.items ++ piece ∷ [])
AddsPiece piece old new (Err failure) =
    (failure ≡ Memory) × KeepsConnection old new × (new.plan.status ≡ old.plan.status)
    × (new.plan.headers ≡ old.plan.headers) × (new.plan.pieces.items ≡ old.plan.pieces.items)

-- the field value of these bytes
abbrev pub IsValueOf : List ℕ → Result FieldValue Failure → Type 0
IsValueOf bytes (Ok value) = IsFieldValue bytes × (value ≡ plain_value bytes)
IsValueOf bytes (Err failure) = (failure ≡ Memory) ⊎ ((failure ≡ Refused) × ¬ (IsFieldValue bytes))
