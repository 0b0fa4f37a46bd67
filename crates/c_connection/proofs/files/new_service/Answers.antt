use Rattle.c_connection.proofs.files.new_service.Goals as goal

pub returns-in-Ok : goal.returns-in-Ok
returns-in-Ok c = (c.in_ok-settings.settings, c.in_ok-settings.ensures, c.in-Ok.ensures)
