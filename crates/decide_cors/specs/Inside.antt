-- The policy that the fields of the type make.
use Rattle.{std.specs.Prelude.option_map, headers.specs.Lines.lines_of, decide_cors.specs.Policy.Policy}
use Rattle.decide_cors.specs.declared.policy.CorsPolicy.TheInside.{Inside}

abbrev pub policy_of : Inside → Policy
policy_of a =
    record {
      origins = option_map (λ listed. lines_of listed.items) a.origins;
      credentials = a.credentials;
      methods = a.methods.bytes;
      names = a.names.bytes;
      exposed = a.exposed.bytes;
      max_age = option_map (λ line. line.bytes) a.max_age;
    }
