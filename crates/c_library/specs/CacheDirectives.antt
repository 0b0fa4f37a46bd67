-- The directives of `cache-control`, as C sees them.
use Rattle.std.specs.Prelude.{◌≡◌, ℕ, List, Option, Some, None}
use Rattle.{headers.specs.{CacheControl.{Directives, directives_of}, Lines.Line}, c_decisions.specs.Flags.flag_of}
use Rattle.c_library.specs.declared.cache_control.{CacheDirectives.CacheDirectives, DirectiveSeconds.DirectiveSeconds}

abbrev pub seconds_of : Option ℕ → DirectiveSeconds
seconds_of None = record { seconds = 0; is_set = 0 }
seconds_of (Some seconds) = record { seconds = seconds; is_set = 1 }

abbrev pub shown : Directives → CacheDirectives
shown directives =
    record {
      max_age = seconds_of directives.max_age;
      max_stale = seconds_of directives.max_stale;
      min_fresh = seconds_of directives.min_fresh;
      s_maxage = seconds_of directives.s_max_age;
      no_cache = flag_of directives.no_cache;
      no_store = flag_of directives.no_store;
      no_transform = flag_of directives.no_transform;
      only_if_cached = flag_of directives.only_if_cached;
      must_revalidate = flag_of directives.must_revalidate;
      must_understand = flag_of directives.must_understand;
      is_public = flag_of directives.public;
      is_private = flag_of directives.private;
      immutable = flag_of directives.immutable;
      proxy_revalidate = flag_of directives.proxy_revalidate;
    }

-- the lines direct what is shown
abbrev pub reads_directives : List Line → CacheDirectives → Type 0
reads_directives lines given =
    (directives : Directives) × (directives_of lines ≡ Some directives) × (given ≡ shown directives)
