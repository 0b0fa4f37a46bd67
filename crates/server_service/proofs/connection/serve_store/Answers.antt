use Rattle.server_service.proofs.connection.serve_store.Goals as goal

pub returns : goal.returns
returns g c = let all = c.serve_exchanges.ensures in (all.0, all.1, all.2, all.3, all.4, all.5)
