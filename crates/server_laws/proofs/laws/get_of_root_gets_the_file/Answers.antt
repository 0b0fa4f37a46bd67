use Rattle.server_laws.proofs.Served.{get_root}
use Rattle.server_laws.proofs.laws.get_of_root_gets_the_file.Goals as goal

pub returns : goal.returns
returns c now left settings site store request response source of bare index asks x =
    get_root store of bare index asks x
