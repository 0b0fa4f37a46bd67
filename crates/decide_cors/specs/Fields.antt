-- Which fields a policy gives a response (Fetch standard, "HTTP responses"). A field without field lines is removed.
use Rattle.std.specs.Prelude.{Bool, not, ◌&&◌, ◌||◌, List, [], ◌∷◌, ◌++◌, Option, Some, None, if◌then◌else◌, bytes_eq}
use Rattle.{std.specs.{Prelude.{is_some, codes}, List.list_any}, headers.specs.{LineMap.Field, Lines.{Line, only_line}}}
use Rattle.decide_cors.specs.{Cache.nominates, Elements.is_filled, Policy.Policy}

-- one field line if the condition holds and there is a line, else none
abbrev pub lines_if : Bool → Option Line → List Line
lines_if condition None = []
lines_if condition (Some line) = if condition then line ∷ [] else []

-- the field line, unless it is empty
abbrev pub filled_line : Line → Option Line
filled_line line = if is_filled line then Some line else None

-- The value of Access-Control-Allow-Origin: a star if any origin is allowed, otherwise that of Origin, if it is listed.
abbrev pub grant : Option (List Line) → Option Line → Option Line
grant None sent = Some (codes "*")
grant (Some listed) None = None
grant (Some listed) (Some line) = if list_any (bytes_eq line) listed then Some line else None

-- the same for all field lines of Origin: more than one are granted nothing, unless any origin is allowed
abbrev pub granted : Policy → List Line → Option Line
granted policy lines = grant policy.origins (only_line lines)

-- The permissions of a preflight. Access-Control-Allow-Methods is present although it is empty: without it, a request
-- for which a preflight is sent whatever its method is would be granted that method.
abbrev pub leave_fields : Policy → Bool → List Field
leave_fields policy condition =
    (codes "access-control-allow-methods", lines_if condition (Some policy.methods))
    ∷ (codes "access-control-allow-headers", lines_if condition (filled_line policy.names))
    ∷ (codes "access-control-max-age", lines_if condition policy.max_age) ∷ []

-- the fields of a response except Vary, by the value of Access-Control-Allow-Origin and whether it answers a preflight
abbrev pub grant_fields : Policy → Bool → Option Line → List Field
grant_fields policy is_preflight line =
    (codes "access-control-allow-origin", lines_if (is_some line) line)
    ∷ (codes "access-control-allow-credentials", lines_if (is_some line && policy.credentials) (Some (codes "true")))
    ∷ (codes "access-control-expose-headers", lines_if (is_some line && not is_preflight) (filled_line policy.exposed))
    ∷ leave_fields policy (is_some line && is_preflight)

-- Vary has a star, or `origin` in any case
abbrev pub covers_origin : List Line → Bool
covers_origin lines = nominates lines (codes "*") || nominates lines (codes "origin")

-- `origin` after the field lines of the response's Vary, unless Vary has it
abbrev pub vary_fields : List Line → List Field
vary_fields lines =
    if covers_origin lines then [] else (codes "vary", lines ++ codes "origin" ∷ []) ∷ []

-- Vary is set if the policy lists its origins
abbrev pub vary_sent : Policy → List Line → List Field
vary_sent policy lines = if is_some policy.origins then vary_fields lines else []

-- the fields of a response, by the field lines of the request's Origin and of the response's Vary
abbrev pub fields_sent : Policy → Bool → List Line → List Line → List Field
fields_sent policy is_preflight sent varying =
    grant_fields policy is_preflight (granted policy sent) ++ vary_sent policy varying
