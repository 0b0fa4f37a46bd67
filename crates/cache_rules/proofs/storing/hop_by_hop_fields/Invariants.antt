use Rattle.{std.specs.{Prelude.{◌≡◌, ◌++◌, true}, List.list_any}, http_header.specs.HeaderMap.keys}
use Rattle.{headers.specs.LineMap.{fields_of, lines_at}, gateway_messages.specs.HopByHop.connection_options}
use Rattle.{gateway_messages.specs.HopByHop.is_hop_by_hop, cache_rules.specs.Storing.removals}
use Rattle.cache_rules.proofs.storing.hop_by_hop_fields.Given as goal

-- what was removed so far, and what is removed of the names that are left; and if one of these is hop-by-hop, one of
-- all is
abbrev pub invariant-loop-name : goal.invariant-loop-name
invariant-loop-name l = record {
  fields : fields_of l.fields.items ++ removals (connection_options (lines_at l.fn.response)) l.name-iterator
      ≡ removals (connection_options (lines_at l.fn.response)) (keys l.fn.response);
  some : list_any (is_hop_by_hop true (connection_options (lines_at l.fn.response))) l.name-iterator ≡ true
      → list_any (is_hop_by_hop true (connection_options (lines_at l.fn.response))) (keys l.fn.response) ≡ true;
}
