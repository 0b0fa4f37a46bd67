-- A site that says what settings do.
use Rattle.std.specs.{Prelude.{◌≡◌, List, [], ◌∷◌, Option, Some, None, string_bytes}, Global.Vec}
use Rattle.{http_header.specs.FieldValue.FieldValue, server_service.specs.Sites.IsSite}
use Rattle.server_service.specs.declared.settings.{Settings.Settings, Site.Site}

-- the hosts of a resource, or none for any
abbrev pub hosts_in : List FieldValue → Vec FieldValue → Option (Vec FieldValue)
hosts_in [] hosts = None
hosts_in (host ∷ rest) hosts = Some hosts

abbrev pub hosts_listed : Vec FieldValue → Option (Vec FieldValue)
hosts_listed hosts = hosts_in hosts.items hosts

-- the site says what the settings do
pub record IsSiteOf (settings : Settings) (site : Site) : Type 0 where
  pub cache_control : site.cache_control ≡ settings.cache_control
  pub hosts : site.resource.hosts ≡ hosts_listed settings.hosts
  pub coding : site.resource.negotiation.coding ≡ settings.negotiates
  pub cors : site.resource.cors ≡ settings.cors
  pub divider : site.divider ≡ settings.divider.text
  pub pages : site.pages ≡ settings.pages
  pub is_site : IsSite (string_bytes site.divider) site.resource
