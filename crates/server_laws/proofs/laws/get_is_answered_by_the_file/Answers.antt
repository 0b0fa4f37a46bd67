use Rattle.server_laws.proofs.Served.{served}
use Rattle.server_laws.proofs.laws.get_is_answered_by_the_file.Goals as goal

pub returns : goal.returns
returns c config settings first now sent room of bare index undated more e = served room of bare index undated more e
