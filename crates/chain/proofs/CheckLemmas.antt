-- A browser's CORS check reads fields that gateways pass on.
use Rattle.std.{proofs.Common.{◌≡◌, ◌↔◌, List, refl, sym, ◌∙◌, ap, subst, get_or}, specs.Prelude.codes}
use Rattle.{headers.specs.Lines.Line, chain.specs.Responses.{HasNoOptions, Returns}}
use Rattle.decide_cors.specs.Browser.{Checks, CorsCheck, Request as Sent, combined}
use Rattle.gateway_messages.specs.{Forwarding.own_names, Responses.Response, declared.gateway.Gateway.Gateway}
use Rattle.chain.proofs.{ResponseLemmas.unchanged, WayLemmas.differs, WayLemmas.not_known}

module _ (gateways : List Gateway) (response last : Response) (way : Returns gateways response last)
    (none : HasNoOptions response.fields) where
  allow_origin : last.fields (codes "access-control-allow-origin")
      ≡ response.fields (codes "access-control-allow-origin")
  allow_origin =
      let name = codes "access-control-allow-origin" in
      unchanged name refl (differs name own_names refl) gateways response last way none
      (λ i d less. not_known name refl refl (get_or gateways i d).consumes_credentials)

  allow_credentials : last.fields (codes "access-control-allow-credentials")
      ≡ response.fields (codes "access-control-allow-credentials")
  allow_credentials =
      let name = codes "access-control-allow-credentials" in
      unchanged name refl (differs name own_names refl) gateways response last way none
      (λ i d less. not_known name refl refl (get_or gateways i d).consumes_credentials)

  pub check_survives : (sent : Sent) → CorsCheck response.fields sent ↔ CorsCheck last.fields sent
  check_survives sent =
      let same : CorsCheck last.fields sent ≡ CorsCheck response.fields sent
      = ap (λ (lines : List Line). Checks (combined lines)
      (combined (last.fields (codes "access-control-allow-credentials"))) sent) allow_origin
      ∙ ap (λ (lines : List Line). Checks
      (combined (response.fields (codes "access-control-allow-origin"))) (combined lines) sent) allow_credentials in
      ((λ h. subst (λ (T : Type 0). T) (sym same) h), (λ h. subst (λ (T : Type 0). T) same h))
