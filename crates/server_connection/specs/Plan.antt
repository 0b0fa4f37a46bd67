-- A plan, and the responses that carry it out.
use Rattle.std.specs.Prelude.{◌≡◌, ℕ, Bool, true, false, List, [], length}
use Rattle.{http.specs.{declared.request.Request.Request, Request.head_of}, http1.specs.Framing.method_kind}
use Rattle.{http1.specs.Server.is_head, http_server.specs.{declared.response.Response.Response, Response.fields}}
use Rattle.{http_server.specs.Response.fields_of, server_connection.specs.declared.plan.ResponsePlan.ResponsePlan}
use Rattle.server_connection.specs.{declared.piece.Piece.Piece, Pieces.{Gives, AreSent, total_len}}

-- what an application is given to fill: a 200 with no field line and no content
pub record IsBlank (plan : ResponsePlan) : Type 0 where
  pub status : plan.status ≡ 200
  pub headers : fields plan.headers.items ≡ []
  pub pieces : plan.pieces.items ≡ []

-- the response has the plan's status and field lines
pub record HasHeadOf (plan : ResponsePlan) (response : Response) : Type 0 where
  pub status : response.status ≡ plan.status
  pub headers : fields_of response ≡ fields plan.headers.items

-- The content is what the pieces send. To HEAD it isn't sent, and only its length counts.
abbrev pub IsContentOf : Bool → Gives → ResponsePlan → List ℕ → Type 0
IsContentOf true gives plan content = length content ≡ total_len plan.pieces.items
IsContentOf false gives plan content = AreSent gives plan.pieces.items content

-- the pieces that are sent: none to HEAD
abbrev pub sent_pieces : Bool → ResponsePlan → List Piece
sent_pieces true plan = []
sent_pieces false plan = plan.pieces.items

-- from one state of an application, a plan answers a request and leaves another state
abbrev pub Plans : Type 0 → Type 1
Plans H = H → Request (List ℕ) → ResponsePlan → H → Type 0

-- from one state of an application, the response carries out a plan that answers the request, and leaves another state
abbrev pub Answers : {H : Type 0} → Plans H → (H → Gives) → H → Request (List ℕ) → Response → H → Type 0
Answers plans gives before request response now =
    (plan : ResponsePlan) × plans before request plan now × HasHeadOf plan response
    × IsContentOf (is_head (method_kind (head_of request).method)) (gives now) plan response.body.items
