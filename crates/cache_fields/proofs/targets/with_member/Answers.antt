use Rattle.cache_fields.proofs.targets.with_member.Goals as goal

pub returns : goal.returns
returns c = cc (
  c.flag_or_names.ensures,
  c.flag.ensures,
  c.flag-2.ensures,
  c.flag-3.ensures,
  c.flag-4.ensures,
  c.flag-5.ensures,
  c.flag_or_names-2.ensures,
  c.flag-6.ensures,
  c.seconds.ensures,
  c.seconds-2.ensures,
  c.seconds-3.ensures,
  c.seconds-4.ensures,
)
