use Rattle.{std.proofs.Common.refl, http_server.specs.declared.state.Config.Config}
use Rattle.c_connection.proofs.moving.new_connection.Goals as goal

pub returns : goal.returns
returns c =
    let config : Config = record (c.default-config.result) { max_body_len = c.args.most_content } in
    let is = c.default-config.ensures in
    (config, (refl, is.1, is.3, is.4, is.5), c.new-2.ensures.begins, c.new-3.ensures, refl, refl)
