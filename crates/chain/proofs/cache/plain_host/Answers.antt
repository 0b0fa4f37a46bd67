use Rattle.headers.specs.LineMap.{lines_at}
use Rattle.chain.{specs.Serving.HasBareHost, proofs.ServingLemmas.{not_special, without_special}}
use Rattle.chain.proofs.cache.plain_host.Goals as goal
use Rattle.chain.proofs.cache.plain_host.Goals.{
  then-not-is_bare_read-via-then-not-is_bare_read,
  then-not-is_bare_read-via-else-not-is_bare_read+then-not-is_path,
  then-not-is_bare_read-via-else-not-is_bare_read+else-not-is_path+then-has_special,
}

pub returns-then-not-is_bare_read : goal.returns-then-not-is_bare_read
returns-then-not-is_bare_read c = λ h. elim c.then-not-is_bare_read.branch [
  | then-not-is_bare_read-via-then-not-is_bare_read w ↦ w.if-not-is_bare_read.ensures h.read
  | then-not-is_bare_read-via-else-not-is_bare_read+then-not-is_path w ↦ w.if-not-is_path.ensures (h.path, h.is_path)
  | then-not-is_bare_read-via-else-not-is_bare_read+else-not-is_path+then-has_special w ↦
      not_special (lines_at c.args.request.now.fields.now) h.without (cc (w.has_special.ensures, w.if-has_special.true))
]

pub returns : goal.returns
returns c =
    let fields = lines_at c.args.request.now.fields.now in
    let is : HasBareHost fields c.in_ok-host.host.now = c.in_ok-host.ensures in (
      record {
        read = c.if-not-is_bare_read.ensures;
        path = c.if-not-is_path.ensures.0;
        is_path = c.if-not-is_path.ensures.1;
        host = c.in_ok-host.host.now;
        has_host = is.is;
        bare = is.bare;
        without = without_special fields (cc (c.has_special.ensures, c.if-has_special.false));
      },
      is.is,
    )
