use Rattle.std.proofs.Common.{refl}
use Rattle.example_notes.proofs.service.Service.answer.Goals as goal

pub returns-in_ok-answer-in-Notes : goal.returns-in_ok-answer-in-Notes
returns-in_ok-answer-in-Notes c = record {
  resource = c.in_ok-resource-in-Notes.resource;
  describes = rw c.in-Notes.is c.in_ok-resource-in-Notes.ensures;
  answers = c.in_ok-answer-in-Notes.ensures;
}

pub returns-in_ok-answer-in-Note : goal.returns-in_ok-answer-in-Note
returns-in_ok-answer-in-Note c = record {
  resource = c.in_ok-resource-in-Note.resource;
  describes = rw c.in-Note.is c.in_ok-resource-in-Note.ensures;
  answers = c.in_ok-answer-in-Note.ensures;
}

pub returns-in_ok-answer-in-Nowhere : goal.returns-in_ok-answer-in-Nowhere
returns-in_ok-answer-in-Nowhere c = record {
  resource = c.args.self.now.routes.nowhere;
  describes = rw c.in-Nowhere.is refl;
  answers = c.in_ok-answer-in-Nowhere.ensures;
}

pub returns-in_ok-answer-in-Server : goal.returns-in_ok-answer-in-Server
returns-in_ok-answer-in-Server c = record {
  resource = c.args.self.now.routes.server_wide;
  describes = rw c.in-Server.is refl;
  answers = c.in_ok-answer-in-Server.ensures;
}
