-- How old a response is (RFC 9111, section 4.2.3).
use Rattle.std.specs.Prelude.{ℕ, ◌+◌, ◌-◌, max}
use Rattle.{headers_map.specs.LineMap.LineMap, rfc_values.specs.Calendar.unix_epoch}
use Rattle.cache_fields.specs.{Fields.{age_value, dated}, declared.age.Times.Times}

-- The terms of the section, in its words. Numbers here have no bound, and a difference below zero is 0.
module _ (times : Times) (response : LineMap) where
  abbrev pub apparent_age : ℕ
  apparent_age = (unix_epoch + times.response) - dated times.response response

  abbrev pub response_delay : ℕ
  response_delay = times.response - times.request

  abbrev pub corrected_age_value : ℕ
  corrected_age_value = age_value response + response_delay

  abbrev pub corrected_initial_age : ℕ
  corrected_initial_age = max apparent_age corrected_age_value

  abbrev pub resident_time : ℕ
  resident_time = times.now - times.response

  -- the current age
  abbrev pub age_at : ℕ
  age_at = corrected_initial_age + resident_time
