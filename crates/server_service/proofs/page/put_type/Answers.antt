use Rattle.server_service.proofs.page.put_type.Goals as goal

pub returns-clause-headers : goal.returns-clause-headers
returns-clause-headers c = rw c.from_static.ensures at c.add_header.ensures.headers
