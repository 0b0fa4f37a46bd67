use Rattle.cache_fields.proofs.directives.directs.Goals as goal

pub returns : goal.returns
returns c = λ i. record {
  no_cache = c.asks_always.ensures i;
  no_store = c.stores_nothing.ensures i;
  only_if_cached = c.is.ensures i;
  must_revalidate = c.is_alone.ensures i;
  proxy_revalidate = c.is-2.ensures i;
  must_understand = c.is_alone-2.ensures i;
  public = c.is_alone-3.ensures i;
  private = c.is-3.ensures i;
  immutable = c.is-4.ensures i;
  max_age = c.seconds_if.ensures i;
  s_max_age = c.seconds_if-2.ensures i;
  max_stale = c.seconds_if-3.ensures i;
  min_fresh = c.seconds_if-4.ensures i;
  stale_while_revalidate = c.seconds_if-5.ensures i;
  stale_if_error = c.seconds_if-6.ensures i;
}
