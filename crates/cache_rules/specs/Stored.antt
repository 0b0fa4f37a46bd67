-- What rules see of a stored response.
use Rattle.std.specs.Prelude.{ℕ, ◌+◌, codes, unwrap_or}
use Rattle.{headers.specs.LineMap.{LineMap, lines_at}, rfc_values.specs.Calendar.unix_epoch}
use Rattle.cache_policy.specs.{Fields.{capped, date_in}, Requests.Request, declared.Times.Times}
use Rattle.cache_rules.specs.declared.stored.StoredResponse.{StoredResponse}

-- the request that it answered
abbrev pub request_of_stored : StoredResponse → Request
request_of_stored stored = record { method = stored.method; fields = lines_at stored.request }

-- the fields of the response
abbrev pub fields_of_stored : StoredResponse → LineMap
fields_of_stored stored = lines_at stored.response

-- its times at a present
abbrev pub times_of : StoredResponse → ℕ → Times
times_of stored now = record { request = stored.requested; response = stored.received; now = now }

-- When it was made, in seconds since the year 0: its Date, or when it came if it has none that is valid (RFC 9110,
-- section 6.6.1). A time past the greatest number of seconds counts as that.
abbrev pub made_at : StoredResponse → ℕ
made_at stored =
    unwrap_or (date_in stored.received (codes "date") (fields_of_stored stored)) (capped (unix_epoch + stored.received))
