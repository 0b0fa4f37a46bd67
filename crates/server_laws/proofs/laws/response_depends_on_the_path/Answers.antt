use Rattle.{http.specs.Request.head_of, server_laws.proofs.Served.{answered_as, leads}}
use Rattle.server_laws.proofs.laws.response_depends_on_the_path.Goals as goal

pub returns : goal.returns
returns c now left site look other request response source alike x =
    answered_as x (leads look other site.resource.negotiation.coding (head_of request).uri x.found alike x.leads)
    x.asked x.asks x.decides
