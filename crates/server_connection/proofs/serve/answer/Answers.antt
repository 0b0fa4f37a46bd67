use Rattle.server_connection.proofs.serve.answer.Goals as goal

pub returns-in-Err : goal.returns-in-Err
returns-in-Err g c = c.give_up.ensures c.args.handler.now c.plan.new.self
