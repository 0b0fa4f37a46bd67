-- A GET that makes no condition and asks for no range gets the content.
use Rattle.decide_cors.{proofs.MadeLemmas.{fit-more, fit-none, made, vec}, specs.Policy.Policy}
use Rattle.decide_negotiation.{proofs.ChoiceLemmas.picks_one, specs.{Choice.{Picks, first_place}, Qualities.quality_in}}
use Rattle.decide_negotiation.specs.{Qualities.rank, declared.acceptability.Quality.Quality}
use Rattle.decide_preconditions.proofs.{OnePlanLemmas.one_plan, PreconditionLemmas.unconditional}
use Rattle.decide_preconditions.specs.{Fields.{lines_sent, status_of}, Plans.{IsPlan, IsPlanned, IsSamePlan}}
use Rattle.decide_preconditions.specs.{Responses.IsAnswered, Selection.Selects, declared.plan.Plan.Plan}
use Rattle.decide_preconditions.specs.declared.{plan.Plan.TheVariants.Full, response.Response.Response as Planning}
use Rattle.decide_preconditions.specs.declared.selection.Selection.TheVariants.{Whole}
use Rattle.decide_resource.{proofs.{AnswerLemmas.one_answer, PickLemmas.picks_alike}, specs.Answers.{Goes, GoesOn}}
use Rattle.decide_resource.specs.Answers.{IsAnswer, IsSelected, IsShared, is_sent, place_of, status_sent}
use Rattle.decide_resource.specs.Applies.{applies, exceeds, host_named, is_misdirected, is_own, is_unacceptable}
use Rattle.decide_resource.specs.{Applies.rule_for, Fields.{lines_of_value, metadata_fields, vary_fields, vary_lines}}
use Rattle.decide_resource.specs.{Reasons.Before, Representations.{are_unacceptable, joined, rank_by, score}}
use Rattle.decide_resource.specs.{Requests.Request as Asked, declared.answer.{Answer.Answer, Sends.Sends}}
use Rattle.decide_resource.specs.declared.{answer.Sends.TheVariants.Planned, reason.Reason.Reason}
use Rattle.decide_resource.specs.declared.{reason.Reason.TheVariants.Admitted, representation.Negotiation.Negotiation}
use Rattle.decide_resource.specs.declared.representation.Representation.{Representation}
use Rattle.decide_resource.specs.declared.{request.RequestContent.TheVariants.Absent, resource.MethodRule.MethodRule}
use Rattle.decide_resource.specs.declared.resource.{Resource.Resource, State.{State, TheVariants.Current}}
use Rattle.gateway_messages.specs.{Expectations.has_known_expectation, Requests.has_host}
use Rattle.{gateway_messages.specs.declared.protocol.Protocol.Protocol, headers.specs.LineMap.{Field, LineMap}}
use Rattle.headers.specs.{LineMap.{fields_of, lines_at}, Lines.Line, declared.Encoded.Encoded}
use Rattle.{http.specs.{Request.head_of, declared.request.Request.Request}, http_header.specs.FieldValue.FieldValue}
use Rattle.{http_uri.specs.Uri.uri_path, rfc_fields.specs.Scan.Member, server_connection.specs.Pieces.AreSent}
use Rattle.server_connection.specs.declared.piece.Piece.{Piece, TheVariants.Range}
use Rattle.server_connection.specs.declared.plan.ResponsePlan.{ResponsePlan as Response}
use Rattle.server_files.specs.{Listings.listing_page, Path.{Names, ends_in_slash}, declared.kept.Kept.Kept}
use Rattle.{server_files.specs.declared.listing.Listing.Listing, server_service.proofs.ContentLemmas.sent_whole}
use Rattle.server_service.proofs.{OneResponseLemmas.asked_once, RepresentationLemmas.contents_own}
use Rattle.server_service.specs.Answer.{AsksForAll, Carries, Decides, IsAnswerAt, IsSendable, cache_fields, clock}
use Rattle.server_service.specs.{Answer.{first_fields, sends_several, source_sent}, Asked.Asks, File.current_of}
use Rattle.server_service.specs.{File.{gives_of, len_of, limits_of, representation_of, validators_of}, Found.FindsEntry}
use Rattle.server_service.specs.{Found.{FindsListing, HasListing, LeadsTo, listed_file}, Response.fields_of as lines_of}
use Rattle.server_service.specs.{Response.{headers_of, trimmed_lines}, Sites.IsSite, Whole.{GetsWhole, whole_fields}}
use Rattle.server_service.specs.declared.file.{Entry.{Entry, TheVariants.{Listed, Readable}}, File.File}
use Rattle.server_service.specs.declared.{found.Found.Found, settings.Site.Site, source.Source.Source}
use Rattle.{server_service.specs.declared.source.Source.TheVariants.Kept as InMemory, std.proofs.Common.{Bool, List}}
use Rattle.std.proofs.Common.{None, Option, Some, [], ap, append-nil, arith, drop, false, inl, inr, length, lit<, map}
use Rattle.std.{proofs.Common.{not, refl, subst, sym, true, ℕ, ◌&&◌, ◌++◌, ◌<◌, ◌^◌, ◌∙◌, ◌∷◌, ◌≡◌}, specs.Global.Vec}
use Rattle.std.specs.{Option.option_map_or, Prelude.{codes, is_some, nat_lt, slice_get, string_bytes}}

abbrev get : List ℕ
get = codes "GET"

lines_few : {V : Type 0} (text : V → Line) (value : Option V) → length (lines_sent text value) < 2 ^ 63
lines_few text value = grind (arith, value)

value_few : (value : Option FieldValue) → length (lines_of_value value) < 2 ^ 63
value_few value = grind (arith, value)

-- one piece, which is all of the source
abbrev pub all_of : Source → List Piece
all_of source = Range (record { start = 0; len = len_of source }) ∷ []

-- ---- the plan

-- 200 sends the whole content
full_by : (plan : Plan) → status_of plan ≡ 200 → plan ≡ Full
full_by plan is = grind (arith, plan)

module _ (negotiates : Bool) (present : ℕ) (fields : LineMap) (own : File) (all : AsksForAll negotiates fields) where
  selects_whole : Selects present get fields (validators_of present own) (len_of own.source) (limits_of own.coding)
      Whole
  selects_whole = inl (λ set applies. let asked = rw all.range at applies.asked in absurd (cc asked))

  full : IsPlan present get fields (current_of present own) (len_of own.source) (limits_of own.coding) Full
  full = (
    validators_of present own,
    record {
      performs = unconditional present fields (current_of present own) get all.if_match all.if_none_match
          all.if_modified_since all.if_unmodified_since;
      is_read = inl refl;
      is_current = refl;
    },
    selects_whole,
  )

  abbrev Plans : Option Plan → Type 0
  Plans plan = IsPlanned present get fields (current_of present own) (len_of own.source) (limits_of own.coding) plan

  same : (plan : Option Plan) → Plans plan → IsSamePlan plan (Some Full)
  same plan h = one_plan present get fields (current_of present own) (len_of own.source) (limits_of own.coding) plan
      (Some Full) h full

-- ---- the representation

abbrev top : ℕ
top = joined 1001 1001 1001

rank_top : (gives : List Member → List ℕ → Quality) (used : Bool) (lines : List Line) (offer : Option Line)
    → (used ≡ true → lines ≡ []) → rank_by gives used lines offer ≡ 1001
rank_top gives used lines None silent = refl
rank_top gives false lines (Some offer) silent = refl
rank_top gives true lines (Some offer) silent = ap (λ (ls : List Line). rank (quality_in gives ls offer)) (silent refl)

-- where nothing is asked, all are liked alike
score_top : (negotiation : Negotiation) (fields : LineMap) (x : Representation) → negotiation.media_type ≡ false
    → negotiation.language ≡ false → (negotiation.coding ≡ true → fields (codes "accept-encoding") ≡ [])
    → score negotiation fields x ≡ top
unfolding score
score_top negotiation fields x media_type language coding = grind (arith, rank_top)

-- of things of one score the first is picked
picks_first : {A : Type 0} (n : ℕ) (xs : List A) → 0 < n → Picks (λ (x : A). n) xs (first_place xs)
picks_first n [] some = λ k other low. absurd (omega (arith, low))
picks_first n (x ∷ xs) some = record {
  within = omega arith;
  positive = λ other. some;
  greatest = λ k other low. omega arith;
  first = λ k other low. absurd (omega (arith, low));
}

-- ---- the reason

rule_found : (rules : List MethodRule) (rule : MethodRule) → rules ≡ rule ∷ [] → rule.method ≡ get
    → rule_for rules get ≡ Some rule
unfolding rule_for
rule_found rules rule e m = rw (e, m) refl

abbrev reading : Protocol → Option Line → LineMap → Asked
reading protocol authority fields = record {
  protocol = protocol;
  method = get;
  authority = authority;
  content = Absent;
  fields = fields;
  denied = None;
}

as_reading : (asked : Asked) → asked.method ≡ get → asked.content ≡ Absent → asked.denied ≡ None
    → asked ≡ reading asked.protocol asked.authority asked.fields
as_reading asked method content admitted = grind arith

-- what a read asks of the resource of a file
record IsReadable (site : Resource) : Type 0 where
  has_rule : is_some (rule_for site.rules.items get) ≡ true
  media_type : site.negotiation.media_type ≡ false
  language : site.negotiation.language ≡ false
  lenient : site.negotiation.is_strict ≡ false

readable : (divider : List ℕ) (site : Resource) → IsSite divider site → IsReadable site
readable divider site is_site = record {
  has_rule = ap is_some (rule_found site.rules.items is_site.rule is_site.rules is_site.is_read.method);
  media_type = is_site.media_type;
  language = is_site.language;
  lenient = is_site.lenient;
}

fits_none : (limit : Option ℕ) → exceeds limit Absent ≡ false
fits_none limit = grind (arith, limit)

module _ (site : Resource) (is_site : IsReadable site) (v : Vec Representation)
    (protocol : Protocol) (authority : Option Line) (fields : LineMap)
    (host : has_host protocol (fields (codes "host")) ≡ true)
    (own_host : is_misdirected site (reading protocol authority fields) ≡ false)
    (expects : has_known_expectation (fields (codes "expect")) ≡ true) where
  abbrev file : Resource
  file = record site { state = Current; representations = v }

  abbrev asked : Asked
  asked = reading protocol authority fields

  acceptable : is_unacceptable file asked ≡ false
  unfolding is_unacceptable
  acceptable = ap (λ (strict : Bool). strict && (nat_lt 0 (length v.items)
      && are_unacceptable site.negotiation fields v.items)) is_site.lenient

  admitted : (present : ℕ) (reason : Reason) → applies present file asked reason ≡ true → reason ≡ Admitted
  admitted present reason t =
      let accepts = acceptable in grind (arith, reason, is_site.has_rule, fits_none site.limit)

  -- ---- the answer

  -- the answer sends all of the file
  record IsWhole (why : Reason) (code : Option ℕ) (sent : Sends) : Type 0 where
    admits : why ≡ Admitted
    status : code ≡ Some 200
    sends : sent ≡ Planned (Some 0) Full

  module _ (present : ℕ) (own : File) (others : List File) (all : AsksForAll site.negotiation.coding fields)
      (items : v.items ≡ representation_of present own ∷ map (representation_of present) others) where
    abbrev mine : Representation
    mine = representation_of present own

    first_selected : (place : Option ℕ) → IsSelected file fields place → place ≡ Some 0
    first_selected place h =
        let choice = picks_one (λ (x : Representation). top) v.items h.choice (first_place v.items)
        (picks_alike (score site.negotiation fields) (λ x. top)
        (λ x. score_top site.negotiation fields x is_site.media_type is_site.language all.accept_encoding) v.items
        h.choice h.picks) (picks_first top v.items (lit< tt)) in
        h.is ∙ ap (place_of v.items) choice ∙ ap (λ (xs : List Representation). place_of xs (first_place xs)) items

    planned : (status : Option ℕ) (sent : Sends) (response : Option Planning)
        → IsAnswered present get fields (current_of present own) mine.content site.boundary response
        → status ≡ status_sent response → sent ≡ is_sent (Some 0) response → IsWhole Admitted status sent
    planned status sent None h same_status same_sent =
        absurd (same site.negotiation.coding present fields own all None h)
    planned status sent (Some response) h same_status same_sent =
        let ok = (same site.negotiation.coding present fields own all (Some response.plan) h.plan).0 in
        let is = full_by response.plan ok in
        record { admits = refl; status = same_status ∙ ap Some (h.status ∙ ok); sends = same_sent ∙ rw is refl }

    goes_whole : (status : Option ℕ) (sent : Sends) (given : List Field)
        → Goes present file asked status sent given → IsWhole Admitted status sent
    goes_whole status sent given h =
        let place = first_selected h.place h.selected in
        let goes : GoesOn present file asked (Some 0) (Some mine) status sent given = subst
        (λ (xs : List Representation). GoesOn present file asked (Some 0) (slice_get xs 0) status sent given) items
        (rw place at h.goes) in
        planned status sent goes.response goes.answered goes.has_status goes.sends

    answer_whole : (answer : Answer) → IsAnswer present file asked answer
        → IsWhole answer.reason answer.status answer.sends
    answer_whole answer h =
        let reason = admitted present answer.reason h.first.is in
        rw reason (goes_whole answer.status answer.sends h.own (rw reason at h.gives))

    -- no answer is that to a HEAD
    decided : (by : List ℕ) (files : List File) (answer : Answer) → Decides present by files file asked answer
        → IsAnswer present file asked answer
    decided by files answer x = elim x [
      | inl h ↦ h.1
      | inr h ↦
          let whole = answer_whole h.0 h.2 in
          let one = ap sends_several whole.sends in absurd (h.1 (λ several. absurd (cc (one, several))))
    ]

    -- ---- an answer that does

    chosen : IsSelected file fields (Some 0)
    chosen = record {
      choice = first_place v.items;
      picks = picks_alike (λ (x : Representation). top) (score site.negotiation fields)
          (λ x. sym (score_top site.negotiation fields x is_site.media_type is_site.language all.accept_encoding))
          v.items (first_place v.items) (picks_first top v.items (lit< tt));
      is = sym (ap (λ (xs : List Representation). place_of xs (first_place xs)) items);
    }

    none_before : (other : Reason) → Before other Admitted → (b : Bool) → applies present file asked other ≡ b
        → applies present file asked other ≡ false
    none_before other before false e = e
    none_before other before true e =
        absurd (omega (arith, subst (λ (r : Reason). Before r Admitted) (admitted present other e) before))

    module _ (cors : site.cors ≡ None) (coding : site.negotiation.coding ≡ false) where
      no_vary : vary_lines file Admitted ≡ []
      no_vary = simp (is_site.media_type, is_site.language, coding)

      given : (sent : Vec Encoded) × (fields_of sent.items ≡ whole_fields present own)
      given = made (whole_fields present own)
          (fit-more _ (value_few _) (fit-more _ (omega arith) (fit-more _ (lines_few _ _) (fit-more _ (lines_few _ _)
          (fit-more _ (omega arith) (fit-more _ (omega arith) (fit-more _ (omega arith) (fit-more _ (omega arith)
          (fit-none 0))))))))) (omega arith)

      planned_fields : (sent : Vec Encoded) × (fields_of sent.items ≡ drop 2 (whole_fields present own))
      planned_fields = made (drop 2 (whole_fields present own))
          (fit-more _ (lines_few _ _) (fit-more _ (lines_few _ _) (fit-more _ (omega arith) (fit-more _ (omega arith)
          (fit-more _ (omega arith) (fit-more _ (omega arith) (fit-none 0))))))) (omega arith)

      abbrev all_answer : Answer
      all_answer = record { reason = Admitted; status = Some 200; sends = Planned (Some 0) Full; fields = given.0 }

      all_answers : IsAnswer present file asked all_answer
      all_answers = record {
        first = record { is = refl; none_before = λ other before. none_before other before _ refl };
        own = whole_fields present own;
        gives = record {
          place = Some 0;
          selected = chosen;
          goes = subst (λ (xs : List Representation).
              GoesOn present file asked (Some 0) (slice_get xs 0) (Some 200) (Planned (Some 0) Full)
              (whole_fields present own)) (sym items) (record {
                response = Some (record { plan = Full; status = 200; fields = planned_fields.0 });
                answered = record {
                  plan = full site.negotiation.coding present fields own all;
                  status = refl;
                  fields = planned_fields.1;
                };
                has_status = refl;
                sends = refl;
                has_fields = ap (λ (l : List Field). metadata_fields true mine ++ l) (sym planned_fields.1);
              });
        };
        shared = [];
        is_shared = subst (λ (p : Option Policy). IsShared p asked (vary_lines file Admitted) []) (sym cors) refl;
        fields = given.1 ∙ sym (ap (λ (l : List Line). (whole_fields present own ++ vary_fields l) ++ []) no_vary);
      }

      fields_are : (answer : Answer) → IsAnswer present file asked answer
          → fields_of answer.fields.items ≡ whole_fields present own
      fields_are answer h = (one_answer present file asked answer all_answer h all_answers).fields ∙ given.1

    abbrev HasFields : Answer → Type 0
    HasFields answer = site.cors ≡ None → site.negotiation.coding ≡ false
        → fields_of answer.fields.items ≡ whole_fields present own

    decided_whole : (by : List ℕ) (files : List File) (answer : Answer) → Decides present by files file asked answer
        → IsWhole answer.reason answer.status answer.sends × HasFields answer
    decided_whole by files answer x =
        let h = decided by files answer x in (answer_whole answer h, λ cors coding. fields_are cors coding answer h)

-- ---- the response

-- 200, with all of the source
pub record HasAll (own : Source) (response : Response) (source : Option Source) : Type 0 where
  pub status : response.status ≡ 200
  pub pieces : response.pieces.items ≡ all_of own
  pub opens : source ≡ Some own

-- of a file in memory its content is sent
pub all_sent : (own : Source) (source : Option Source) (response : Response) (kept : Kept) (sent : List ℕ)
    → HasAll own response source → own ≡ InMemory kept → AreSent (gives_of source) response.pieces.items sent
    → sent ≡ kept.content
all_sent own source response kept sent has memory h = sent_whole kept sent (rw (has.opens, has.pieces, memory) at h)

pub found_entry : (negotiates : Bool) (look : List ℕ → Entry) (request : Request (List ℕ)) (named : List ℕ)
    (entry : Entry) (found : Found) → Names (uri_path (head_of request).uri) (Some named) → look named ≡ entry
    → LeadsTo negotiates (λ path entry. entry ≡ look path) (head_of request).uri found
    → FindsEntry negotiates (λ path entry. entry ≡ look path) (head_of request).uri named entry found
found_entry negotiates look request named entry found names stands x = elim x [
  | inl h ↦
      let same : h.0 ≡ named = h.1.is_named ∙ sym names.is_named in
      let is : h.2.0 ≡ entry = h.2.1 ∙ ap look same ∙ stands in rw (same, is) at h.2.2
  | inr h ↦ absurd (h.0 named names)
]

module _ (now : Option ℕ) (left : ℕ) (site : Site) (divider : List ℕ) (look : List ℕ → Entry)
    (request : Request (List ℕ)) (response : Response) (source : Option Source) (asked : Asked) where
  -- All of the first content is sent, and it exists. Where nothing is negotiated or shared, the fields are its own.
  pub get_has_all : IsSite divider site.resource → Asks request asked
      → has_host asked.protocol (asked.fields (codes "host")) ≡ true → is_misdirected site.resource asked ≡ false
      → has_known_expectation (asked.fields (codes "expect")) ≡ true → (head_of request).method ≡ get
      → AsksForAll site.resource.negotiation.coding (lines_at (head_of request).headers)
      → (x : IsAnswerAt now left site (λ path entry. entry ≡ look path) request response source)
      → (own : File) (others : List File) → x.found.state ≡ Current → x.found.files.items ≡ own ∷ others
      → HasAll own.source response source × (site.resource.cors ≡ None → site.resource.negotiation.coding ≡ false
      → lines_of response ≡ trimmed_lines ((first_fields now left ++ cache_fields site.cache_control)
      ++ headers_of (whole_fields (clock now x.found.files.items) own)))
  get_has_all is_site asks host own_host expects method all x own others current contents =
      let present : ℕ = clock now x.found.files.items in
      let by : List ℕ = string_bytes site.divider in
      let reads : x.asked ≡ reading asked.protocol asked.authority asked.fields =
      sym (asked_once request asked x.asked asks x.asks)
      ∙ as_reading asked (asks.2.method ∙ method) asks.2.content asks.2.admitted in
      let described = x.described in
      let resource : x.resource ≡ record site.resource {
        state = Current;
        representations = described.representations;
      } = described.is
      ∙ ap (λ (s : State). record site.resource { state = s; representations = described.representations }) current in
      let items = described.are ∙ ap (map (representation_of present)) contents in
      let whole = decided_whole site.resource (readable divider site.resource is_site) described.representations
      asked.protocol asked.authority asked.fields host own_host expects present own others
      (rw asks.2.fields all) items by x.found.files.items x.answer (rw (reads, resource) at x.decides) in
      let is = whole.0 in (
        record {
          status = x.carries.status ∙ simp (is.admits, is.status);
          pieces = x.carries.pieces ∙ simp (is.sends, contents);
          opens = x.opens ∙ simp (is.sends, contents);
        },
        λ cors coding. x.carries.headers ∙ simp (is.sends, cors, whole.1 cors coding, append-nil),
      )

pub get_whole : (now : Option ℕ) (left : ℕ) (site : Site) (divider : List ℕ) (look : List ℕ → Entry)
    (request : Request (List ℕ)) (named : List ℕ) (file : File) (response : Response) (source : Option Source)
    (asked : Asked) → IsSite divider site.resource → Asks request asked
    → has_host asked.protocol (asked.fields (codes "host")) ≡ true → is_misdirected site.resource asked ≡ false
    → has_known_expectation (asked.fields (codes "expect")) ≡ true → (head_of request).method ≡ codes "GET"
    → Names (uri_path (head_of request).uri) (Some named) → look named ≡ Readable file
    → AsksForAll site.resource.negotiation.coding (lines_at (head_of request).headers)
    → IsAnswerAt now left site (λ path entry. entry ≡ look path) request response source → (response.status ≡ 200)
    × ((kept : Kept) (sent : List ℕ) → file.source ≡ InMemory kept
    → AreSent (gives_of source) response.pieces.items sent → sent ≡ kept.content)
get_whole now left site divider look request named file response source asked is_site asks host own_host expects method
    names stands all x =
    let finds =
    found_entry site.resource.negotiation.coding look request named (Readable file) x.found names stands x.leads in
    let contents = contents_own site.resource.negotiation.coding (λ path entry. entry ≡ look path) named file
    x.found.files.items finds.2 in
    let has = get_has_all now left site divider look request response source asked is_site asks host own_host expects
    method all x contents.0 contents.1 finds.0 contents.2 in (
      has.0.status,
      λ kept sent memory. all_sent contents.0.source source response kept sent has.0 (contents.3 ∙ memory),
    )

has_listing : (path : List ℕ) (listing : Listing) (found : Found) → FindsListing path listing found
    → ends_in_slash path ≡ true → HasListing listing found
has_listing path listing found x slash = elim x [ inl h ↦ h.1 | inr h ↦ let no = h.0 in absurd (cc (no, slash)) ]

pub get_listing : (now : Option ℕ) (left : ℕ) (site : Site) (divider : List ℕ) (look : List ℕ → Entry)
    (request : Request (List ℕ)) (named : List ℕ) (listing : Listing) (response : Response)
    (source : Option Source) (asked : Asked) → IsSite divider site.resource → Asks request asked
    → has_host asked.protocol (asked.fields (codes "host")) ≡ true → is_misdirected site.resource asked ≡ false
    → has_known_expectation (asked.fields (codes "expect")) ≡ true → (head_of request).method ≡ codes "GET"
    → Names (uri_path (head_of request).uri) (Some named) → look named ≡ Listed listing
    → ends_in_slash (uri_path (head_of request).uri) ≡ true
    → AsksForAll site.resource.negotiation.coding (lines_at (head_of request).headers)
    → IsAnswerAt now left site (λ path entry. entry ≡ look path) request response source → (response.status ≡ 200)
    × ((sent : List ℕ) → AreSent (gives_of source) response.pieces.items sent
    → sent ≡ listing_page (string_bytes listing.folder) (map string_bytes listing.names.items))
get_listing now left site divider look request named listing response source asked is_site asks host own_host expects
    method names stands slash all x =
    let finds =
    found_entry site.resource.negotiation.coding look request named (Listed listing) x.found names stands x.leads in
    let lists = has_listing (uri_path (head_of request).uri) listing x.found finds.1 slash in
    let has = get_has_all now left site divider look request response source asked is_site asks host own_host expects
    method all x (listed_file listing) [] lists.state lists.files in (
      has.0.status,
      λ sent h. all_sent (InMemory listing.page) source response listing.page sent has.0 refl h ∙ listing.is_page,
    )

-- ---- the response that is made at once

sendable : (by : List ℕ) (files : List File) → IsSendable by files (Planned (Some 0) Full)
sendable by files = λ several. absurd (cc several)

module _ (now : Option ℕ) (left present : ℕ) (site : Site) (has : List ℕ → Entry → Type 0)
    (request : Request (List ℕ)) (response : Response) (source : Option Source) (found : Found) (own : File)
    (asked : Asked) where
  abbrev Sent : List File → List Field → Type 0
  Sent files given = Carries (first_fields now left) site files 200 (Planned (Some 0) Full) given response

  pub whole_is_answer : present ≡ clock now found.files.items
      → LeadsTo site.resource.negotiation.coding has (head_of request).uri found → Asks request asked
      → GetsWhole site.resource asked found own → Sent (own ∷ []) (whole_fields present own)
      → source ≡ source_sent found.files.items (Planned (Some 0) Full)
      → IsAnswerAt now left site has request response source
  whole_is_answer time leads asks gets carries opens =
      let plain = gets.site in
      let v : Vec Representation = vec (representation_of present own ∷ []) (omega arith) in
      let is_read : IsReadable site.resource = record {
        has_rule = plain.has_rule;
        media_type = plain.media_type;
        language = plain.language;
        lenient = plain.lenient;
      } in
      let all : AsksForAll site.resource.negotiation.coding asked.fields =
      subst (λ (b : Bool). AsksForAll b asked.fields) (sym plain.coding) gets.asks.all in
      let own_host = ap (λ (hosts : Option (Vec FieldValue)). option_map_or
      (λ (own : Vec FieldValue). not (is_own own.items (host_named asked.authority (asked.fields (codes "host")))))
      hosts false) plain.hosts in
      let answer : Answer = all_answer site.resource is_read v asked.protocol asked.authority asked.fields
      gets.asks.host own_host gets.asks.expects present own [] all refl plain.cors plain.coding in
      let answers = all_answers site.resource is_read v asked.protocol asked.authority asked.fields gets.asks.host
      own_host gets.asks.expects present own [] all refl plain.cors plain.coding in
      let fields = given site.resource is_read v asked.protocol asked.authority asked.fields gets.asks.host own_host
      gets.asks.expects present own [] all refl plain.cors plain.coding in
      let resource : Resource = record site.resource { state = Current; representations = v } in
      let by : List ℕ = string_bytes site.divider in
      record {
        found = found;
        leads = leads;
        resource = resource;
        described = record {
          representations = v;
          are = ap (λ (t : ℕ). representation_of t own ∷ []) time
              ∙ sym (ap (map (representation_of (clock now found.files.items))) gets.files);
          is = ap (λ (s : State). record site.resource { state = s; representations = v }) (sym gets.state);
        };
        asked = asked;
        asks = asks;
        answer = answer;
        decides = subst (λ (t : ℕ). Decides t by found.files.items resource asked answer) time
            (subst (λ (q : Asked). Decides present by found.files.items resource q answer)
            (sym (as_reading asked gets.asks.method asks.2.content asks.2.admitted))
            (inl (sendable by found.files.items, answers)));
        carries = subst (Sent found.files.items) (sym fields.1)
            (subst (λ (l : List File). Sent l (whole_fields present own)) (sym gets.files) carries);
        opens = opens;
      }
