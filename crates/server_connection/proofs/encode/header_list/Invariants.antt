use Rattle.{std.proofs.Common.{◌≡◌, take}, http1.specs.Head.pairs, http_server.specs.Response.fields}
use Rattle.server_connection.proofs.encode.header_list.Given as goal

abbrev pub invariant-loop-header : goal.invariant-loop-header
invariant-loop-header l = pairs l.list.items ≡ fields (take l.header-index l.headers)
