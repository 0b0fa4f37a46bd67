use Rattle.{std.proofs.Common.{[], None, refl, inl}, http_server.proofs.MachineLemmas.running_at}
use Rattle.server_connection.proofs.machine.Machine.new.Goals as goal

pub returns-clause-holds : goal.returns-clause-holds
returns-clause-holds c = running_at _ (record {
  is_open = refl;
  answered = [];
  text = [];
  rest = [];
  serves = (refl, refl);
  interim = [];
  is_interim = inl refl;
  out = c.new-2.ensures.items;
}) None refl refl ((c.new.ensures.items, refl, c.new-5.ensures.items), c.new-3.ensures)
