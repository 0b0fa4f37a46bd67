use Rattle.server_laws.proofs.Served.{framed_literally}
use Rattle.server_laws.proofs.laws.ok_is_framed_literally.Goals as goal

pub returns : goal.returns
returns c limits head framing plan server now tag media_type before tail after rest ok stays frames =
    framed_literally limits head framing ok stays frames
