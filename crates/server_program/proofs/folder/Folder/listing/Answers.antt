use Rattle.server_program.proofs.folder.Folder.listing.Goals as goal

pub returns : goal.returns
returns c = c.entry_of.ensures.listed c.args.path.now
