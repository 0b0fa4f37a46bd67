use Rattle.gateway_connection.proofs.ReaderLemmas.{dash_is_spelled, no_marks_is_spelled, unlike_is_spelled}
use Rattle.gateway_connection.proofs.laws.names_are_spelled.Goals as goal

pub returns-clause-dash : goal.returns-clause-dash
returns-clause-dash c = dash_is_spelled

pub returns-clause-marks : goal.returns-clause-marks
returns-clause-marks c = no_marks_is_spelled

pub returns-clause-unlike : goal.returns-clause-unlike
returns-clause-unlike c = unlike_is_spelled
