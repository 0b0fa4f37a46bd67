-- What the errors of `forward` print.
use Rattle.std.specs.Prelude.{ℕ, List, codes}
use Rattle.headers_user.specs.declared.forwarding.ForwardError.{ForwardError}
use Rattle.headers_user.specs.declared.forwarding.ForwardError.TheVariants.{BadHops, Memory}

abbrev pub forward_error_text : ForwardError → List ℕ
forward_error_text BadHops = codes "BadHops"
forward_error_text Memory = codes "Memory"
