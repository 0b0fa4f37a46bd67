use Rattle.server_program.proofs.folder.FolderFileStore.find.Goals as goal

pub or_listing-requires : goal.or_listing-requires
or_listing-requires c = c.in_ok-entry.ensures c.args.path.now
