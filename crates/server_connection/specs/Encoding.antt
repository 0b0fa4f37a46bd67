-- What `http1` puts around the content of a plan.
use Rattle.std.specs.Prelude.{◌≡◌, ◌≢◌, ℕ, ◌^◌, ◌<◌, Bool, true, false, List, [], ◌++◌, None, if◌then◌else◌, ◌==◌}
use Rattle.http1.specs.declared.{conn.BodySize.{BodySize, TheVariants.{Empty, Known}}, server.Server.Server}
use Rattle.http1.specs.{Conn.{data_prefix, data_suffix, after_data, finish_text}, Fields.Header, Server.writing}
use Rattle.http1.specs.Server.{with_writing, after_end, response_refusal, planned_response, after_response}
use Rattle.{http1_typed.specs.Parts.reason_of, http_server.specs.Response.fields}
use Rattle.server_connection.specs.{declared.plan.ResponsePlan.ResponsePlan, Pieces.total_len}

-- how long a plan's content is
abbrev pub content_len : ResponsePlan → ℕ
content_len plan = total_len plan.pieces.items

-- the size of a content of this length, as `http1` is told it
abbrev pub size_for : ℕ → BodySize
size_for len = if len == 0 then Empty else Known len

abbrev pub plan_size : ResponsePlan → BodySize
plan_size plan = size_for (content_len plan)

abbrev pub plan_fields : ResponsePlan → List Header
plan_fields plan = fields plan.headers.items

-- the head of the response
abbrev pub head_text : Server → ResponsePlan → List ℕ
head_text s plan = planned_response s plan.status (reason_of plan.status) (plan_size plan) (plan_fields plan)

-- the server after the head
abbrev pub after_head : Server → ResponsePlan → Server
after_head s plan = after_response s plan.status (plan_size plan) (plan_fields plan)

-- the head was accepted and appended
pub record WritesHead (plan : ResponsePlan) (old : Server) (before : List ℕ) (new : Server) (after : List ℕ)
    : Type 0 where
  pub late : plan.status ≢ 101
  pub short : content_len plan < 2 ^ 64
  pub valid : response_refusal old plan.status (reason_of plan.status) (plan_size plan) (plan_fields plan) ≡ None
  pub text : after ≡ before ++ head_text old plan
  pub next : new ≡ after_head old plan

-- what goes before the content and after it, unless the method is `HEAD`
abbrev pub prefix_of : Bool → Server → ResponsePlan → List ℕ
prefix_of true s plan = []
prefix_of false s plan = data_prefix (writing (after_head s plan)) (content_len plan)

abbrev pub suffix_of : Bool → Server → ResponsePlan → List ℕ
suffix_of true s plan = []
suffix_of false s plan = data_suffix (writing (after_head s plan)) (content_len plan)

-- the server after the content
abbrev pub after_content : Bool → Server → ResponsePlan → Server
after_content true s plan = after_head s plan
after_content false s plan =
    with_writing (after_head s plan) (after_data (writing (after_head s plan)) (content_len plan))

-- The head of the response was appended to the output, with what goes before its content, and what goes after it to the
-- tail.
pub record Frames (bodiless : Bool) (plan : ResponsePlan) (old : Server) (before tail_before : List ℕ) (new : Server)
    (after tail_after : List ℕ) : Type 0 where
  pub late : plan.status ≢ 101
  pub short : content_len plan < 2 ^ 64
  pub valid : response_refusal old plan.status (reason_of plan.status) (plan_size plan) (plan_fields plan) ≡ None
  pub head : after ≡ (before ++ head_text old plan) ++ prefix_of bodiless old plan
  pub tail : tail_after ≡ (tail_before ++ suffix_of bodiless old plan) ++ finish_text
      (writing (after_content bodiless old plan)) []
  pub next : new ≡ after_end (after_content bodiless old plan)
