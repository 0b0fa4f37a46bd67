-- The laws of the header `access-control-allow-origin`: `*` is no origin.
use Rattle.std.{specs.Prelude.{◌≡◌, length, codes, refl}, proofs.Common.{ap, arith, length-append}}
use Rattle.headers_syntax.{specs.Lines.{Line, only_line}, specs.HeaderLaws.HeaderLaws}
use Rattle.headers_hosts.{specs.OneLine.{Same, line_laws}, specs.Origin.IsOriginLine}
use Rattle.headers_hosts.specs.Origin as Kinds
use Rattle.headers_hosts.{specs.OriginLaws.{origin_once, origin_back}, specs.declared.origin.Origin.Origin}
use Rattle.headers_hosts.specs.declared.origin.OriginOrNull.{OriginOrNull}
use Rattle.headers_hosts.specs.declared.origin.OriginOrNull.TheVariants.{Tuple, Null}
use Rattle.headers_cors.specs.AccessControlAllowOrigin.{IsKindLine, IsAllowedLine, kind_text, allowed_text}
use Rattle.headers_cors.specs.AccessControlAllowOrigin.{allow_origin_reads, allow_origin_writes}
use Rattle.headers_cors.specs.declared.access_control_allow_origin.AccessControlAllowOrigin.{AccessControlAllowOrigin}
use Rattle.headers_cors.specs.declared.access_control_allow_origin.OriginOrAny.{OriginOrAny}
use Rattle.headers_cors.specs.declared.access_control_allow_origin.OriginOrAny.TheVariants.{One, Any}

-- one byte is no origin
pub star_no_origin : (line : Line) (origin : Origin) → line ≡ codes "*" → IsOriginLine line origin → ⊥
star_no_origin line origin e h = by origin.kind h
  where
    by : (kind : OriginOrNull) → Kinds.IsKindLine line kind → ⊥
    by Null k = absurd (cc (e, k))
    by (Tuple s a) k =
        let size = ap length e in
        let spelled = simp length-append at (ap length k.1.1.spelled) in
        absurd (omega (arith, size, spelled))

kind_once : (line : Line) (v w : OriginOrAny) → IsKindLine line v → IsKindLine line w → v ≡ w
kind_once line Any Any h k = refl
kind_once line Any (One origin) h k = absurd (star_no_origin line origin h k)
kind_once line (One origin) Any h k = absurd (star_no_origin line origin k h)
kind_once line (One origin) (One other) h k = ap (λ (o : Origin). One o) (origin_once line origin other h k)

allowed_once : (line : Line) (v w : AccessControlAllowOrigin) → IsAllowedLine line v → IsAllowedLine line w → v ≡ w
allowed_once line v w h k =
    ap (λ (kind : OriginOrAny). let header : AccessControlAllowOrigin = record { kind = kind } in header)
    (kind_once line v.kind w.kind h k)

kind_back : (line : Line) (v : OriginOrAny) → IsKindLine line v → IsKindLine (kind_text v) v
kind_back line Any h = refl
kind_back line (One origin) h = origin_back line origin h

pub allowed_back : (line : Line) (v : AccessControlAllowOrigin) → IsAllowedLine line v
    → IsAllowedLine (allowed_text v) v
allowed_back line v h = kind_back line v.kind h

pub allow_origin_laws : HeaderLaws Same allow_origin_reads allow_origin_writes
allow_origin_laws = line_laws only_line IsAllowedLine allowed_text (λ line. refl) allowed_once allowed_back
