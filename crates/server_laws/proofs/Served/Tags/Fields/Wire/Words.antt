-- The words of the proofs.
unfoldable pub use Rattle.decide_resource.specs.{Applies.{is_unacceptable, rule_for}, Representations.score}
unfoldable pub use Rattle.{gateway_messages.specs.HostTests.is_reg_name, headers.specs.Date.fixdate}
unfoldable pub use Rattle.http1.specs.{Fields.known_fields, Head.are_headers, Server.plan_fields as planned_for}
unfoldable pub use Rattle.http1.specs.Text.{eq_ignore_case, numeral}
unfoldable pub use Rattle.{http_header.specs.Token.is_token_byte as is_name_byte, httparse.specs.Grammar.is_token_byte}
unfoldable pub use Rattle.httparse.specs.Grammar.{print_request, print_response, trim_ows}
unfoldable pub use Rattle.percent_encoding.specs.Percent.{percent_decode}
pub use Rattle.decide_cors.specs.Browser.{CorsCheck, IsPreflightFor, PreflightPasses, Request as Sent}
pub use Rattle.decide_cors.specs.{Fields.{fields_sent as policy_fields, grant, lines_if}, Policy.Policy}
pub use Rattle.decide_negotiation.specs.{Choice.Picks, Codings.encoding_quality, Languages.language_says}
pub use Rattle.decide_negotiation.specs.{MediaRanges.media_type_says, Qualities.quality_by}
pub use Rattle.decide_preconditions.proofs.{HeadLemmas.never_unconditional, OnePlanLemmas.one_plan}
pub use Rattle.decide_preconditions.{proofs.TagLemmas.{strongly_equal, weakly_equal}, specs.Conditions.IfMatchIsTrue}
pub use Rattle.decide_preconditions.specs.{Conditions.IfNoneMatchIsFalse, Contents.{divisible_len, limits_of}}
pub use Rattle.decide_preconditions.specs.Fields.{etag_of, etag_sent, fields_sent, is_known_by, length_sent, lines_sent}
pub use Rattle.decide_preconditions.specs.{Fields.status_of, Plans.IsPlan, Preconditions.{Answers, IsGetOrHead}}
pub use Rattle.decide_preconditions.specs.{Preconditions.StateIsKept, Responses.IsAnswered, Tags.{are_tags, is_star}}
pub use Rattle.decide_preconditions.specs.declared.{content.Content.Content, limits.RangeLimits.RangeLimits}
pub use Rattle.decide_preconditions.specs.declared.{part.Part.Part, plan.Plan.{Plan, TheVariants.{Failed, NotModified}}}
pub use Rattle.decide_preconditions.specs.declared.plan.Plan.TheVariants.{Single}
pub use Rattle.decide_preconditions.specs.declared.resource.TargetState.{TargetState as Target, TheVariants.Current}
pub use Rattle.decide_preconditions.specs.declared.resource.Validators.{Validators}
pub use Rattle.decide_preconditions.specs.declared.response.Response.{Response as Planning}
pub use Rattle.decide_resource.{proofs.AnswerLemmas.one_place, specs.Answers.{Gives as AnswerGives, GivesIf, GoesOn}}
pub use Rattle.decide_resource.specs.Answers.{IsAnswer, IsSelected, IsShared, Stops, at_place, bare, content_of}
pub use Rattle.decide_resource.specs.Answers.{is_admitted, is_sent, place_in, sent_for, status_sent, target_of}
pub use Rattle.decide_resource.specs.{Answers.with_metadata, Applies.{applies, has_method, has_moved, is_misdirected}}
pub use Rattle.decide_resource.specs.{Applies.{is_missing, rule}, Fields.{moved_status, reason_fields, vary_fields}}
pub use Rattle.decide_resource.specs.{Fields.vary_lines, Reasons.{Before, IsFirst}, Representations.{joined, rank_by}}
pub use Rattle.decide_resource.specs.Requests.{Request as Asked, get_of, head_of as as_head}
pub use Rattle.decide_resource.specs.declared.answer.{Answer.Answer, Sends.{Sends, TheVariants.Planned}}
pub use Rattle.decide_resource.specs.declared.reason.Reason.{Reason, TheVariants.Admitted}
pub use Rattle.decide_resource.specs.declared.representation.{Negotiation.Negotiation, Representation.Representation}
pub use Rattle.decide_resource.specs.declared.request.RequestContent.TheVariants.{Absent}
pub use Rattle.decide_resource.specs.declared.resource.{MethodRule.MethodRule, Resource.Resource, State.State}
pub use Rattle.gateway_messages.specs.{Expectations.has_known_expectation, Requests.has_host}
pub use Rattle.{gateway_messages.specs.declared.protocol.Protocol.Protocol, headers.specs.Date.parts_at}
pub use Rattle.headers.specs.{EntityTag.{IsSomeTag, IsTag, TagParts, is_tag_byte, weak_prefix}, LineMap.Field}
pub use Rattle.headers.specs.{LineMap.{LineMap, fields_of as encoded_fields, lines_at, set, set_all}, Lines.Line}
pub use Rattle.{headers.specs.Text.{quote, trim}, headers_syntax.proofs.EntityTagLemmas.{is_tag-true, passes_from_text}}
pub use Rattle.http.specs.{Request.{body_of, head_of}, declared.{error.Error.Error, request.Request.Request}}
pub use Rattle.http1.proofs.{HeadRoundTrip.{not_refused, request_reads_back}, NumeralLemmas.decimal_is_number}
pub use Rattle.http1.proofs.NumeralLemmas.{decimal_is_plain, decimal_is_trimmed, numeral_reads_back}
pub use Rattle.http1.{proofs.OneParse.request_message_unique, specs.Body.{Body, body_of as whole_body}}
pub use Rattle.http1.specs.Conn.{Plan as WirePlan, fits, is_connect, is_plain as is_usual, keeps_alive, length_header}
pub use Rattle.http1.specs.{Conn.{plan_refusal, planned_headers, size_headers, states_framing}, Encoder.encoder_for}
pub use Rattle.http1.specs.Fields.{Header, content_length, elements_named, frames_plainly, is_framing_field}
pub use Rattle.http1.specs.{Fields.{is_plain_number, values_named}, Framing.{has_no_body, is_bodiless_status}}
pub use Rattle.http1.specs.{Framing.{method_kind, request_framing, response_framing}, Head.{is_field_value, is_header}}
pub use Rattle.http1.specs.{Head.{is_status_line, response_text, starts_visible}, Message.ReadsRequestMessage}
pub use Rattle.http1.specs.{Message.known_of, Server.{connection_headers, is_205_with_content, is_coded_304, is_sized}}
pub use Rattle.http1.specs.Server.{plan_stated, responding, response_plan, response_refusal, stays_open, writing}
pub use Rattle.http1.specs.{Text.HasNoBareLf, declared.{conn.Limits.Limits, error.WriteError.WriteError}}
pub use Rattle.http1.specs.declared.{fields.KnownFields.KnownFields, framing.Framing.Framing}
pub use Rattle.http1.specs.declared.framing.Framing.TheVariants.{Length as Sized, NoBody, UntilClose}
pub use Rattle.http1.specs.declared.framing.{FramingError.TheVariants.UnexpectedTransferEncoding, MethodKind.MethodKind}
pub use Rattle.http1.specs.declared.server.{Request.Request as Serving, Server.Server}
pub use Rattle.{http1_typed.specs.Parts.reason_of, http_header.specs.{FieldValue.FieldValue, HeaderMap.Entries}}
pub use Rattle.{http_header.specs.HeaderMap.{RefusesAppend, value_count}, http_server.specs.Encoding.answering}
pub use Rattle.http_server.specs.{Encoding.refusal_of, Exchange.{ArePartsOf, Call, Exchanges, ExpectsContinue}}
pub use Rattle.http_server.specs.{Exchange.{IsAnswer as IsAnswerOf, ReadsCall, Serves, map_of}, History.HasInvalidHost}
pub use Rattle.http_server.specs.History.{HasInvalidPart, HasTooManyFields, HasUnknownCoding, IsPartError, IsServed}
pub use Rattle.http_server.specs.{History.{Justifies, NextIs, Stands}, Host.IsHostValid, declared.state.Config.Config}
pub use Rattle.http_server.specs.declared.state.{Refusal.Refusal as Refusing, State.State as Stage}
pub use Rattle.http_uri.{proofs.{PathLemmas.IsPathAndQuery_slash, UriLemmas.cut_first}, specs.Grammar.IsForm}
pub use Rattle.http_uri.specs.{Grammar.IsUriText, Uri.{uri_authority, uri_data, uri_path, uri_scheme}}
pub use Rattle.{http_uri.specs.declared.uri.Uri.Uri, httparse.proofs.GrammarLemmas.ReadsRequest-append}
pub use Rattle.httparse.{proofs.GrammarLemmas.request_unique, specs.Grammar.{ReadsRequest, RequestHead}}
pub use Rattle.httpdate.specs.Text.{four_digits, imf_fixdate, month_name, time_of_day, two_digits}
pub use Rattle.{httpdate.specs.declared.parts.Parts.Parts, rfc_fields.specs.Grammar.{Element, IsSeparator, Octet.Plain}}
pub use Rattle.rfc_fields.specs.Grammar.{Part.{Byte, Quoted}, comma, element_text, is_element, is_octet, octet_text}
pub use Rattle.rfc_fields.specs.{Laws.ParsesOneWay, Members.field_members, Scan.Member.Whole}
pub use Rattle.server_connection.{proofs.PieceLemmas.Advances-length, specs.Connection.{Exchanged, IsClosing}}
pub use Rattle.server_connection.specs.Encoding.{Frames, after_head, content_len, head_text, plan_fields, plan_size}
pub use Rattle.server_connection.specs.{Encoding.size_for, Literal.{IsLater, IsLiteral, SendsCall, SendsCalls}}
pub use Rattle.server_connection.specs.{Pieces.{AreSent, Gives, total_len}, Plan.Plans}
pub use Rattle.server_connection.specs.declared.piece.Piece.TheVariants.{Range}
pub use Rattle.server_connection.specs.declared.plan.ResponsePlan.{ResponsePlan as Response}
pub use Rattle.server_files.{proofs.DigestLemmas.{digest_is_boundary, tag_is_tag}, specs.Codings.coding_suffix}
pub use Rattle.server_files.specs.{Path.{IsStorePath, Names}, Tags.{content_digest, strong_tag}}
pub use Rattle.server_files.specs.declared.coding.Coding.{Coding, TheVariants.{Brotli, Gzip, Identity}}
pub use Rattle.{server_files.specs.declared.kept.Kept.Kept, server_laws.specs.Answered.{HasNoOptions, IsWhole, JoinTo}}
pub use Rattle.server_laws.specs.{Answered.{SendsContent, line_named, lines_in, whole_fields}, Literal.AsksForRoot}
pub use Rattle.server_laws.specs.Literal.{IsOk, StaysOpen, ok_fields, ok_text, request_text, root_head}
pub use Rattle.server_laws.specs.{Requests.IsAgain, Sendable.{IsBareIfAny, IsBarePolicy, IsFinal, StatesLength}}
pub use Rattle.server_laws.specs.{Served.{IsServedFile, gives, plans}, Stores.{AreSimilar, HaveAlike, HaveSimilar}}
pub use Rattle.{server_laws.specs.Stores.{Label, has_at, label_of}, server_service.proofs.AnswerLemmas.Fits-from_plan}
pub use Rattle.server_service.proofs.{ContentLemmas.sent_bytes, OneResponseLemmas.asked_once, TrimLemmas.ends_append}
pub use Rattle.server_service.proofs.TrimLemmas.{tag_bare as tag_is_bare, trim_bare, trim_bare_text, trim_ended}
pub use Rattle.server_service.proofs.{TrimLemmas.trim_visible, WholeLemmas.{all_sent, found_entry, get_has_all}}
pub use Rattle.server_service.specs.Answer.{AsksForAll, Decides, IsAnswerAt, cache_fields, cache_sent, clock, date_of}
pub use Rattle.server_service.specs.Answer.{explained_fields, file_at, first_fields, pieces_for, pieces_of}
pub use Rattle.server_service.specs.{Answer.{sends_several, source_of, source_sent, status_for, tag_sent}, Asked.Asks}
pub use Rattle.server_service.specs.{Asked.{HasAuthority, IsProtocolOf}, File.{coding_value, current_of, gives_of}}
pub use Rattle.server_service.specs.{File.{representation_of, tag_of, validators_of}, Found.{FindsEntry, LeadsTo}}
pub use Rattle.server_service.specs.{Memory.{HasOne, IsKept}, Parts.{Fits, part_extent}, Representations.AreContents}
pub use Rattle.server_service.specs.{Representations.{HasEntryAt, offered, represented}, Response.fields_of}
pub use Rattle.server_service.specs.Response.{headers_sent, headers_set, is_bare, is_bare_tag, is_kept, is_line}
pub use Rattle.server_service.specs.Response.{is_named, lines_under, lines_unless, trimmed_line, trimmed_lines}
pub use Rattle.server_service.specs.{SiteSettings.{IsSiteOf, hosts_in}, Sites.IsSite, declared.file.Entry.Entry}
pub use Rattle.server_service.specs.declared.{file.{Entry.TheVariants.Readable, File.File}, memory.Memory.Memory}
pub use Rattle.server_service.specs.declared.{service.FileService.FileService, settings.{Settings.Settings, Site.Site}}
pub use Rattle.server_service.specs.declared.source.Source.{Source, TheVariants.{Kept as InMemory, Opened}}
pub use Rattle.std.proofs.Common.{Bool, Err, List, None, Ok, Option, Result, Some, [], ap, append-nil, append_assoc}
pub use Rattle.std.proofs.Common.{arith, codes, cond, drop, eqb, false, get_or, inl, inr, length, map, nat_lt, not}
pub use Rattle.std.proofs.Common.{refl, subst, suc, sym, take, true, zero, ℕ, ◌&&◌, ◌++◌, ◌+◌, ◌-◌, ◌<◌, ◌^◌, ◌||◌, ◌↔◌}
pub use Rattle.std.proofs.{Common.{◌∙◌, ◌∷◌, ◌≡◌, ◌≢◌, ◌≤◌, ◌⊎◌}, Math.Bool.{and-false, or-true}}
pub use Rattle.std.proofs.lemmas.Bool.{Decides.nat_tests, and_from, and_parts, cases_Bool, cond-false, lt-ltb, ne_eqb}
pub use Rattle.std.proofs.lemmas.{Fmt.{decimal-digits_of, decimal_digit}, Grind.flat_map-append}
pub use Rattle.std.proofs.lemmas.{Int.Digits.all_below_base_digits_of, List.{Concat.flat_map_single, Elements.All-cons}}
pub use Rattle.std.proofs.lemmas.List.{Elements.All-nil, Folds.{flat_map-map, list_all-append, list_all-map}}
pub use Rattle.std.proofs.lemmas.List.{Sums.{AllPass-from_list_all, list_all-from_AllPass, sum_by-cons}, get_or-map}
pub use Rattle.std.proofs.lemmas.List.{length-append, length-drop, length-map, map-append, map-id, take-append-drop}
pub use Rattle.std.proofs.lemmas.{List.take_all, Option.slice_get-map, Slice.Eq.bytes_eq-Decides}
pub use Rattle.std.specs.{Char.digit_char, Int.Digits.AllBelowBase, List.{flat_map, list_all, list_any}}
pub use Rattle.std.specs.{Option.{option_map, option_map_or}, Prelude.{Any, bytes_eq, count_by, decimal, is_some}}
pub use Rattle.std.specs.Prelude.{nat_le, slice_index_or, string_bytes, ◌==◌}
pub use Rattle.http.specs.declared.error.Error.TheVariants as Invalid
pub use Rattle.http1.specs.Message
pub use Rattle.http1.specs.declared.conn.Writing.TheVariants as Writes
pub use Rattle.http1.specs.declared.error.WriteError.TheVariants as Refusal
pub use Rattle.http1.specs.declared.fields.ContentLength.TheVariants as Length
pub use Rattle.http1.specs.declared.fields.TransferEncoding.TheVariants as Coded
pub use Rattle.http1.specs.declared.framing.MethodKind.TheVariants as Method
pub use Rattle.http_server.specs.declared.state.Reason.TheVariants as ended
pub use Rattle.http_server.specs.declared.state.Refusal.TheVariants as refusal
pub use Rattle.decide_preconditions.specs.declared.precondition.Precondition.TheVariants as precondition
pub use Rattle.decide_resource.specs.declared.answer.Sends.TheVariants as sends
pub use Rattle.decide_resource.specs.declared.resource.State.TheVariants as state
pub use Rattle.server_service.specs.declared.file.Entry.TheVariants as entry
