use Rattle.server_laws.proofs.Served.{answer_sent}
use Rattle.server_laws.proofs.laws.answers_are_sendable.Goals as goal

pub returns : goal.returns
returns c limits head framing now left site look request response source is_site bare minor method x =
    answer_sent x is_site head method limits framing bare minor
