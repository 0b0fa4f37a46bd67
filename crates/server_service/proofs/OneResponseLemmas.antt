-- A request has one response at most.
use Rattle.std.proofs.Common.{◌≡◌, ℕ, Bool, true, List, [], ◌++◌, Option, Some, None, refl, map, sym, ap, subst, ◌∙◌}
use Rattle.std.{proofs.Common.{inl, inr}, specs.Prelude.{is_some, string_bytes}}
use Rattle.{http.specs.{declared.request.Request.Request, Request.head_of}, http_uri.specs.declared.uri.Uri.Uri}
use Rattle.{http_uri.specs.Uri.{uri_authority, uri_path, uri_query}, http1.specs.Fields.Header}
use Rattle.headers.specs.LineMap.{Field, LineMap, fields_of as encoded_fields}
use Rattle.{headers.specs.Lines.Line, server_connection.specs.declared.piece.Piece.Piece}
use Rattle.server_connection.specs.declared.plan.ResponsePlan.{ResponsePlan as Response}
use Rattle.gateway_messages.specs.declared.protocol.Protocol.{Protocol}
use Rattle.decide_preconditions.{specs.Contents.{divisible_len, limits_of}, specs.declared.part.Part.Part}
use Rattle.decide_preconditions.specs.declared.plan.Plan.TheVariants.{Full, Multiple}
use Rattle.decide_resource.specs.declared.denied.Denied.{Denied as Denial}
use Rattle.decide_resource.specs.Answers.{AreSame, AreSent, IsAnswer, at_place, content_of, target_of}
use Rattle.decide_resource.specs.Requests.{Request as Asked, head_of as as_head}
use Rattle.decide_resource.specs.declared.answer.{Answer.Answer, Sends.{Sends, TheVariants.{Nothing, Alternatives}}}
use Rattle.decide_resource.specs.declared.{answer.Sends.TheVariants.{Planned, Perform}, reason.Reason.Reason}
use Rattle.decide_resource.specs.declared.{request.RequestContent.RequestContent, resource.Resource.Resource}
use Rattle.decide_resource.{specs.declared.resource.State.State, proofs.AnswerLemmas.one_answer}
use Rattle.{decide_resource.proofs.ItemLemmas.same_answer, server_files.specs.declared.listing.Listing.Listing}
use Rattle.server_service.specs.Answer.{Carries, Decides, IsAnswerAt, IsDescribed, IsHeldBy, IsSendable, cache_sent}
use Rattle.server_service.specs.Answer.{clock, explained_fields, file_at, file_sent, first_fields, pieces_for}
use Rattle.server_service.specs.{Answer.{pieces_of, sends_several, status_for}, Asked.{Asks, HasAuthority}}
use Rattle.server_service.specs.{Asked.IsProtocolOf, File.representation_of, Found.{FindsEntry, FindsFolder}}
use Rattle.server_service.specs.{Found.{FindsListing, IsEmpty, LeadsTo}, Multipart.multipart, Response.IsSameResponse}
use Rattle.server_service.specs.{Response.{headers_sent, trimmed_lines}, declared.file.Entry.Entry}
use Rattle.server_service.specs.declared.file.Entry.TheVariants.{Missing, Forbidden, Unavailable, Folder, Listed}
use Rattle.server_service.specs.declared.{file.{Entry.TheVariants.Readable, File.File}, found.Found.Found}
use Rattle.server_service.{specs.declared.{settings.Site.Site, source.Source.Source}, proofs.AnswerLemmas.IsPlanOf}
use Rattle.server_service.proofs.{AnswerLemmas.{IsPlannedIn, planned_in}, PlanLemmas.same_by_plan}
use Rattle.server_service.proofs.RepresentationLemmas.{contents_once}

-- ---- what a path leads to

-- both have the same state, status and contents
record AreAlike (f g : Found) : Type 0 where
  state : f.state ≡ g.state
  status : f.status ≡ g.status
  files : f.files.items ≡ g.files.items

absent_alike : {s : State} (status : ℕ) (f g : Found) → IsEmpty s status f → IsEmpty s status g → AreAlike f g
absent_alike status f g h k =
    record { state = h.state ∙ sym k.state; status = h.status ∙ sym k.status; files = h.files ∙ sym k.files }

folder_alike : (path : List ℕ) (query : Option (List ℕ)) (f g : Found) → FindsFolder path query f
    → FindsFolder path query g → AreAlike f g
folder_alike path query f g x y = elim x [
  | inl h ↦ elim y [ inl k ↦ absent_alike 404 f g h.1 k.1 | inr k ↦ absurd (k.has_index h.0) ]
  | inr h ↦
      elim y [
        | inl k ↦ absurd (h.has_index k.0)
        | inr k ↦
            record {
              state = h.state ∙ sym k.state;
              status = h.status ∙ sym k.status;
              files = h.files ∙ sym k.files;
            }
      ]
]

listing_alike : (path : List ℕ) (listing : Listing) (f g : Found) → FindsListing path listing f
    → FindsListing path listing g → AreAlike f g
listing_alike path listing f g x y = elim x [
  | inl h ↦
      elim y [
        | inl k ↦
            record {
              state = h.1.state ∙ sym k.1.state;
              status = h.1.status ∙ sym k.1.status;
              files = h.1.files ∙ sym k.1.files;
            }
        | inr k ↦ let yes = h.0 in let no = k.0 in absurd (cc (yes, no))
      ]
  | inr h ↦
      elim y [
        | inl k ↦ let no = h.0 in let yes = k.0 in absurd (cc (yes, no))
        | inr k ↦ absent_alike 404 f g h.1 k.1
      ]
]

module _ (negotiates : Bool) (look : List ℕ → Entry) (uri : Uri) (f g : Found) where
  abbrev Has : List ℕ → Entry → Type 0
  Has path entry = entry ≡ look path

  entry_alike : (named : List ℕ) (entry : Entry) → FindsEntry negotiates Has uri named entry f
      → FindsEntry negotiates Has uri named entry g → AreAlike f g
  entry_alike named Missing h k = absent_alike 404 f g h k
  entry_alike named Forbidden h k = absent_alike 403 f g h k
  entry_alike named Unavailable h k = absent_alike 503 f g h k
  entry_alike named Folder h k = folder_alike (uri_path uri) (uri_query uri) f g h k
  entry_alike named (Listed listing) h k = listing_alike (uri_path uri) listing f g h.1 k.1
  entry_alike named (Readable file) h k = record {
    state = h.0 ∙ sym k.0;
    status = h.1 ∙ sym k.1;
    files = contents_once look negotiates named file f.files.items g.files.items h.2 k.2;
  }

  leads_alike : LeadsTo negotiates Has uri f → LeadsTo negotiates Has uri g → AreAlike f g
  leads_alike x y = elim x [
    | inl h ↦
        elim y [
          | inl k ↦
              let named : h.0 ≡ k.0 = h.1.is_named ∙ sym k.1.is_named in
              let found : h.2.0 ≡ k.2.0 = h.2.1 ∙ ap look named ∙ sym k.2.1 in
              entry_alike k.0 k.2.0 (subst (λ (p : List ℕ). FindsEntry negotiates Has uri p k.2.0 f) named
              (subst (λ (e : Entry). FindsEntry negotiates Has uri h.0 e f) found h.2.2)) k.2.2
          | inr k ↦ absurd (k.0 h.0 h.1)
        ]
    | inr h ↦ elim y [ inl k ↦ absurd (h.0 k.0 k.1) | inr k ↦ absent_alike 404 f g h.1 k.1 ]
  ]

-- ---- what is asked

authority_once : (text : Option (List ℕ)) (a b : Option Line) → HasAuthority text a → HasAuthority text b → a ≡ b
authority_once None a b h k = h ∙ sym k
authority_once (Some text) None None h k = refl
authority_once (Some text) None (Some line) h k = absurd (h k.0)
authority_once (Some text) (Some line) None h k = absurd (k h.0)
authority_once (Some text) (Some line) (Some other) h k = ap Some (h.1 ∙ sym k.1)

protocol_once : (version : _) (a b : Protocol) → IsProtocolOf version a → IsProtocolOf version b → a ≡ b
protocol_once version a b x y = elim x [
  | inl h ↦ elim y [ inl k ↦ h.1 ∙ sym k.1 | inr k ↦ absurd (k.0 h.0) ]
  | inr h ↦ elim y [ inl k ↦ absurd (h.0 k.0) | inr k ↦ h.1 ∙ sym k.1 ]
]

abbrev asking : Protocol → List ℕ → Option Line → RequestContent → LineMap → Option Denial → Asked
asking protocol method authority content fields denied = record {
  protocol = protocol;
  method = method;
  authority = authority;
  content = content;
  fields = fields;
  denied = denied;
}

pub asked_once : (request : Request (List ℕ)) (a b : Asked) → Asks request a → Asks request b → a ≡ b
asked_once request a b h k =
    let authority = authority_once (uri_authority (head_of request).uri) h.0 k.0 h.1 k.1 in
    ap (λ (x : Protocol). asking x a.method a.authority a.content a.fields a.denied)
    (protocol_once (head_of request).version a.protocol b.protocol h.2.protocol k.2.protocol)
    ∙ ap (λ (x : List ℕ). asking b.protocol x a.authority a.content a.fields a.denied) (h.2.method ∙ sym k.2.method)
    ∙ ap (λ (x : Option Line). asking b.protocol b.method x a.content a.fields a.denied)
    (h.2.has_authority ∙ authority ∙ sym k.2.has_authority)
    ∙ ap (λ (x : RequestContent). asking b.protocol b.method b.authority x a.fields a.denied)
    (h.2.content ∙ sym k.2.content)
    ∙ ap (λ (x : LineMap). asking b.protocol b.method b.authority b.content x a.denied) (h.2.fields ∙ sym k.2.fields)
    ∙ ap (λ (x : Option Denial). asking b.protocol b.method b.authority b.content b.fields x)
    (h.2.admitted ∙ sym k.2.admitted)

-- ---- the answer

module _ (present : ℕ) (resource : Resource) (asked : Asked) where
  -- what depends on what is sent, and for several parts on their list alone, is the same for two that say the same
  by_sends : {X : Type 0} (of : Sends → X) (several : Option ℕ → List Part → X)
      → ((place : Option ℕ) (parts : _) → of (Planned place (Multiple parts)) ≡ several place parts.items)
      → (a b : Sends) → AreSent a b → IsPlannedIn present resource asked a → IsPlannedIn present resource asked b
      → of a ≡ of b
  by_sends of several same_parts Nothing Nothing sent h k = refl
  by_sends of several same_parts Alternatives Alternatives sent h k = refl
  by_sends of several same_parts Perform Perform sent h k = refl
  by_sends of several same_parts (Planned place p) (Planned other q) sent h k =
      let representation = at_place resource.representations.items place in
      same_by_plan present asked.method asked.fields (target_of resource.state representation)
      (divisible_len (content_of representation)) (limits_of (content_of representation))
      (λ plan. of (Planned place plan)) (several place) (same_parts place) p q h (subst
      (λ (at : Option ℕ). IsPlanOf present resource asked (at_place resource.representations.items at) q)
      (sym sent.0) k) sent.1
      ∙ ap (λ (at : Option ℕ). of (Planned at q)) sent.0
  by_sends of several same_parts Nothing Alternatives sent h k = absurd sent
  by_sends of several same_parts Nothing (Planned other q) sent h k = absurd sent
  by_sends of several same_parts Nothing Perform sent h k = absurd sent
  by_sends of several same_parts Alternatives Nothing sent h k = absurd sent
  by_sends of several same_parts Alternatives (Planned other q) sent h k = absurd sent
  by_sends of several same_parts Alternatives Perform sent h k = absurd sent
  by_sends of several same_parts (Planned place p) Nothing sent h k = absurd sent
  by_sends of several same_parts (Planned place p) Alternatives sent h k = absurd sent
  by_sends of several same_parts (Planned place p) Perform sent h k = absurd sent
  by_sends of several same_parts Perform Nothing sent h k = absurd sent
  by_sends of several same_parts Perform Alternatives sent h k = absurd sent
  by_sends of several same_parts Perform (Planned other q) sent h k = absurd sent

-- two answers to one request
record AreOne (present : ℕ) (resource : Resource) (a b : Answer) : Type 0 where
  asked : Asked
  same : AreSame a b
  first : IsPlannedIn present resource asked a.sends
  second : IsPlannedIn present resource asked b.sends

one_of : (present : ℕ) (resource : Resource) (asked : Asked) (a b : Answer) → IsAnswer present resource asked a
    → IsAnswer present resource asked b → AreOne present resource a b
one_of present resource asked a b h k = record {
  asked = asked;
  same = one_answer present resource asked a b h k;
  first = planned_in present resource asked a h;
  second = planned_in present resource asked b k;
}

sendable_as : (present : ℕ) (resource : Resource) (divider : List ℕ) (files : List File) (a b : Answer)
    → AreOne present resource a b → IsSendable divider files a.sends → IsSendable divider files b.sends
sendable_as present resource divider files a b one h =
    let several : sends_several a.sends ≡ sends_several b.sends = by_sends present resource one.asked sends_several
    (λ place parts. true) (λ place parts. refl) a.sends b.sends one.same.sends one.first one.second in
    let file : file_sent files a.sends ≡ file_sent files b.sends = by_sends present resource one.asked (file_sent files)
    (λ place parts. file_at files place) (λ place parts. refl) a.sends b.sends one.same.sends one.first one.second in
    λ more. subst (λ (of : Option File). ¬ (IsHeldBy divider of)) file (h (several ∙ more))

decided_once : (present : ℕ) (divider : List ℕ) (files : List File) (resource : Resource) (asked : Asked)
    (a b : Answer) → Decides present divider files resource asked a
    → Decides present divider files resource asked b → AreOne present resource a b
decided_once present divider files resource asked a b x y = elim x [
  | inl h ↦
      elim y [
        | inl k ↦ one_of present resource asked a b h.1 k.1
        | inr k ↦
            absurd (k.1 (sendable_as present resource divider files a k.0
            (one_of present resource asked a k.0 h.1 k.2) h.0))
      ]
  | inr h ↦
      elim y [
        | inl k ↦
            absurd (h.1 (sendable_as present resource divider files b h.0
            (one_of present resource asked b h.0 k.1 h.2) k.0))
        | inr k ↦ one_of present resource (as_head asked) a b h.3 k.3
      ]
]

-- ---- the resource

module _ (present : ℕ) (site : Resource) (f g : Found) (alike : AreAlike f g) (r s : Resource)
    (d : IsDescribed present site f r) (e : IsDescribed present site g s) where
  moves : (asked : Asked) (answer : Answer) → IsAnswer present r asked answer → IsAnswer present s asked answer
  moves asked answer h = subst (λ (x : Resource). IsAnswer present x asked answer) (sym e.is)
      (same_answer present (record site { state = g.state; representations = d.representations }) d.representations
      e.representations (d.are ∙ ap (map (representation_of present)) alike.files ∙ sym e.are) asked answer (subst
      (λ (x : State).
      IsAnswer present (record site { state = x; representations = d.representations }) asked answer) alike.state
      (subst (λ (x : Resource). IsAnswer present x asked answer) d.is h)))

  moves_decided : (divider : List ℕ) (files : List File) (asked : Asked) (answer : Answer)
      → Decides present divider files r asked answer → Decides present divider files s asked answer
  moves_decided divider files asked answer x = elim x [
    | inl h ↦ inl (h.0, moves asked answer h.1)
    | inr h ↦ inr (h.0, h.1, moves asked h.0 h.2, moves (as_head asked) answer h.3)
  ]

-- ---- the response

-- the pieces that are sent: those of several parts depend on their list
abbrev several_in : List ℕ → Option File → List Part → List Piece
several_in divider None parts = []
several_in divider (Some file) parts = multipart divider file parts

parts_alike : (divider : List ℕ) (file : Option File) (parts : _)
    → pieces_of divider file (Multiple parts) ≡ several_in divider file parts.items
parts_alike divider None parts = refl
parts_alike divider (Some file) parts = refl

module _ (present : ℕ) (resource : Resource) (before : List Header) (site : Site) (files : List File) (absent : ℕ)
    (a b : Answer) (one : AreOne present resource a b) (r s : Response)
    (x : Carries before site files (status_for absent a.reason a.status) a.sends (encoded_fields a.fields.items) r)
    (y : Carries before site files (status_for absent b.reason b.status) b.sends (encoded_fields b.fields.items) s)
  where
    same_by : {X : Type 0} (of : Sends → X) (several : Option ℕ → List Part → X)
        → ((place : Option ℕ) (parts : _) → of (Planned place (Multiple parts)) ≡ several place parts.items)
        → of a.sends ≡ of b.sends
    same_by of several same_parts =
        by_sends present resource one.asked of several same_parts a.sends b.sends one.same.sends one.first one.second

    status_same : status_for absent a.reason a.status ≡ status_for absent b.reason b.status
    status_same = ap (λ (reason : Reason). status_for absent reason a.status) one.same.reason
        ∙ ap (λ (status : Option ℕ). status_for absent b.reason status) one.same.status

    abbrev has_policy : Bool
    has_policy = is_some site.resource.cors

    abbrev together : List Header → List Field → List Header → List Header
    together cached fields explained = ((before ++ cached) ++ headers_sent has_policy fields) ++ explained

    fields_same : together (cache_sent a.sends site.cache_control) (encoded_fields a.fields.items)
        (explained_fields (status_for absent a.reason a.status) a.sends)
        ≡ together (cache_sent b.sends site.cache_control) (encoded_fields b.fields.items)
        (explained_fields (status_for absent b.reason b.status) b.sends)
    fields_same = ap (λ (l : List Header). together l (encoded_fields a.fields.items)
        (explained_fields (status_for absent a.reason a.status) a.sends))
        (same_by (λ sent. cache_sent sent site.cache_control)
        (λ place parts. cache_sent (Planned place Full) site.cache_control) (λ place parts. refl))
        ∙ ap (λ (l : List Field). together (cache_sent b.sends site.cache_control) l
        (explained_fields (status_for absent a.reason a.status) a.sends)) one.same.fields
        ∙ ap (λ (n : ℕ). together (cache_sent b.sends site.cache_control) (encoded_fields b.fields.items)
        (explained_fields n a.sends)) status_same
        ∙ ap (λ (l : List Header). together (cache_sent b.sends site.cache_control) (encoded_fields b.fields.items) l)
        (same_by (explained_fields (status_for absent b.reason b.status)) (λ place parts. []) (λ place parts. refl))

    response_same : IsSameResponse r s
    response_same = (
      x.status ∙ status_same ∙ sym y.status,
      x.headers ∙ ap trimmed_lines fields_same ∙ sym y.headers,
      x.pieces
          ∙ ap (λ (n : ℕ). pieces_for (string_bytes site.divider) site.pages.items files n a.sends) status_same
          ∙ same_by
          (pieces_for (string_bytes site.divider) site.pages.items files (status_for absent b.reason b.status))
          (λ place parts. several_in (string_bytes site.divider) (file_at files place) parts)
          (λ place parts. parts_alike (string_bytes site.divider) (file_at files place) parts)
          ∙ sym y.pieces,
    )

pub one_response : (now : Option ℕ) (left : ℕ) (site : Site) (look : List ℕ → Entry) (request : Request (List ℕ))
    (r s : Response) (a b : Option Source) → IsAnswerAt now left site (λ path entry. entry ≡ look path) request r a
    → IsAnswerAt now left site (λ path entry. entry ≡ look path) request s b → IsSameResponse r s
one_response now left site look request r s a b x y =
    let divider : List ℕ = string_bytes site.divider in
    let alike =
    leads_alike site.resource.negotiation.coding look (head_of request).uri x.found y.found x.leads y.leads in
    let asked : x.asked ≡ y.asked = asked_once request x.asked y.asked x.asks y.asks in
    let present : ℕ = clock now y.found.files.items in
    let described =
    subst (λ (l : List File). IsDescribed (clock now l) site.resource x.found x.resource) alike.files x.described in
    let decided = moves_decided present site.resource x.found y.found alike x.resource y.resource described y.described
    divider y.found.files.items y.asked x.answer
    (subst (λ (l : List File). Decides (clock now l) divider l x.resource y.asked x.answer) alike.files
    (subst (λ (q : Asked). Decides (clock now x.found.files.items) divider x.found.files.items x.resource q x.answer)
    asked x.decides)) in
    let one = decided_once present divider y.found.files.items y.resource y.asked x.answer y.answer decided y.decides in
    response_same present y.resource (first_fields now left) site y.found.files.items y.found.status x.answer y.answer
    one r s (subst (λ (n : ℕ).
    Carries (first_fields now left) site y.found.files.items (status_for n x.answer.reason x.answer.status)
    x.answer.sends (encoded_fields x.answer.fields.items) r) alike.status (subst (λ (l : List File).
    Carries (first_fields now left) site l (status_for x.found.status x.answer.reason x.answer.status)
    x.answer.sends (encoded_fields x.answer.fields.items) r) alike.files x.carries)) y.carries
