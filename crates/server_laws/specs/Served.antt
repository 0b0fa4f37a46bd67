-- What a connection that got one request has sent.
use Rattle.std.specs.Prelude.{◌≡◌, ℕ, ◌-◌, ◌≤◌, List, [], ◌++◌, length, map, All, Option, None, codes}
use Rattle.httparse.specs.{Grammar.{print_response, status_code}, Spans.name_and_value}
use Rattle.http1.specs.{declared.conn.Limits.Limits, Fields.Header, Framing.method_kind, Message.ReadsResponseMessage}
use Rattle.{http_server.specs.Exchange.IsAdded, headers.specs.Text.trim, server_connection.specs.Pieces.Gives}
use Rattle.{server_connection.specs.Plan.Plans, server_service.specs.{Answer.{IsAnswer, IsSameSite}, File.gives_of}}
use Rattle.server_service.specs.{Memory.HasOne, declared.{memory.Memory.Memory, service.FileService.FileService}}
use Rattle.{server_files.specs.Tags.{content_digest, strong_tag}, server_laws.specs.Literal.{ok_fields, ok_text}}
use Rattle.http1.specs.Message as Wire

abbrev pub plans : Plans (FileService Memory)
plans before request plan after =
    IsAnswer (λ now. now ≡ None) before.left before.site (HasOne before.store) request plan after.source
    × IsSameSite before.site after.site × (after.store ≡ before.store) × (after.left ≡ before.left - 1)

abbrev pub gives : FileService Memory → Gives
gives now = gives_of now.source

-- What was sent is one response: a client that sent a GET reads it, whole, as a 200 of HTTP/1.1 with exactly these
-- fields in this order, and with the content of the store's file. After them stand those that the connection adds. Of
-- the media type the white space at its ends isn't sent. The bytes are literally the head of that 200 and the content.
pub record IsServedFile (store : Memory) (sent : List ℕ) : Type 0 where
  pub now : Option ℕ
  pub message : Wire.Response
  pub reads : (limits : Limits) → length (print_response message.head) ≤ limits.max_head_len
      → 2 ≤ limits.max_trailers_len
      → ReadsResponseMessage limits (method_kind (codes "GET")) sent message []
  pub minor : message.head.minor ≡ 1
  pub status : status_code message.head ≡ 200
  pub added : List Header
  pub fields : map name_and_value message.head.fields
      ≡ ok_fields now (strong_tag (content_digest store.content.content)) (length store.content.content)
      (trim store.media_type.bytes) ++ added
  pub own : All (IsAdded (length store.content.content)) added
  pub body : message.body.bytes ≡ store.content.content
  pub literal : sent
      ≡ ok_text now (strong_tag (content_digest store.content.content)) (length store.content.content)
      (trim store.media_type.bytes) ++ store.content.content
